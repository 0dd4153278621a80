-- What a join asks of the table is that it loses no value, instruction by instruction.
use Rattle.std.proofs.Common.{◌≡◌, ◌∙◌, ◌⊎◌, ℕ, Bool, true, false, List, [], ◌∷◌, Option, Some, None, inl, inr, refl, sym, ap, subst}
use Rattle.std.specs.Prelude.{◌&&◌, ◌||◌, not, slice_get}
use Rattle.std.specs.List.{list_all}
use Rattle.target_base.specs.declared.types.Target.{Target}
use Rattle.meaning.specs.declared.types.Lane.{Lane}
use Rattle.meaning.specs.declared.types.Lane.TheVariants.{SlotLane, UnitLane, VirtualLane}
use Rattle.meaning.specs.declared.types.Write.{Write}
use Rattle.meaning.specs.Code.{Item}
use Rattle.meaning.specs.Fold.{copies}
use Rattle.meaning.specs.Lanes.{same_lane}
use Rattle.meaning.specs.Live.{Among as Member, here as first, there as later, writes_of}
use Rattle.mir_func.specs.declared.func.Block.{Block}
use Rattle.mir_func.specs.declared.func.Instr.{Instr}
use Rattle.mir_func.specs.Value.{Function}
use Rattle.mir_meaning.specs.Codes.{item_of}
use Rattle.mir_meaning.specs.Points.{Entry, Exit, LiveAt}
use Rattle.instr_effects.specs.declared.owner.Owner.TheVariants as owners
use Rattle.instr_effects.specs.Numbered.{number_in}
use Rattle.live_lanes.specs.declared.live.LiveFunc.{LiveFunc}
use Rattle.live_lanes.specs.Entered.{rows_seen}
use Rattle.live_lanes.specs.Reach.{seen_at}
use Rattle.live_lanes.specs.Table.{Begun, Numbers, Seen, entry_rank, exit_rank}
use Rattle.live_laws.proofs.Effects.Blocks.{slice-member}
use Rattle.live_laws.proofs.Effects.Lists.{all-of}
use Rattle.live_laws.proofs.Exact.Quiet.{is_range_lane}
use Rattle.live_edits.specs.declared.fold.Join.{Join}
use Rattle.live_edits.specs.Folded.{copy_sides, image}
use Rattle.join_laws.specs.Joined.{join_at}
use Rattle.join_laws.proofs.Asked.{IsAsked}
use Rattle.coalescer.specs.Asked.{AsksQuiet, IsQuietLane, copies_lane, is_apart, is_quiet_writing, is_written_at, partner}
use Rattle.coalescer.specs.Coalescing.{MayCoalesce, instr_of, sides_in}
use Rattle.coalescer.specs.QuietInstrs.{QuietInstrs}
use Rattle.coalescer.specs.QuietLaws.{AskedByInstrs, IsLane}
use Rattle.coalescer.proofs.QuietCopies.{by-sides}
use Rattle.coalescer.proofs.QuietLanes.{asked-of, live-lane, not-writes, partner-of, partner-same, written-lane}
use Rattle.coalescer.proofs.QuietTable.{begun-early, begun-instr, begun-writes, dead-entry, dead-exit, found-here, live-entry, live-exit, unwritten, writes-begun, written-exit}
use Rattle.coalescer.proofs.Unseen.{by-apart}

-- tests

last-one : (u a c : Bool) → (u || a || c) ≡ true → a ≡ false → c ≡ false → u ≡ true
last-one true a c h e f = refl
last-one false true c h e f = absurd (cc)
last-one false false true h e f = absurd (cc)
last-one false false false h e f = h

by-copies : (u a c : Bool) → (a || c) ≡ true → (u || a || c) ≡ true
by-copies true a c h = refl
by-copies false a c h = h

none-of : (a c : Bool) → (a || c) ≡ false → (a ≡ false) × (c ≡ false)
none-of true c h = absurd (cc)
none-of false c h = (refl, h)

apart-of : (a b e c : Bool) → (not a && not b && not (e && c)) ≡ true → (a ≡ false) × (b ≡ false) × (e ≡ true → c ≡ false)
apart-of true b e c h = absurd (cc)
apart-of false true e c h = absurd (cc)
apart-of false false true true h = absurd (cc)
apart-of false false true false h = (refl, refl, λ k. refl)
apart-of false false false c h = (refl, refl, λ k. absurd (cc))

of-apart : (a b e c : Bool) → a ≡ false → b ≡ false → (e ≡ true → c ≡ false) → (not a && not b && not (e && c)) ≡ true
of-apart true b e c f g h = absurd (cc)
of-apart false true e c f g h = absurd (cc)
of-apart false false true true f g h = absurd (let z : true ≡ false = h refl in cc)
of-apart false false true false f g h = refl
of-apart false false false c f g h = refl

not-true : (u : Bool) → (u ≡ true → ⊥) → u ≡ false
not-true true h = absurd (h refl)
not-true false h = refl

not-both : (u : Bool) → u ≡ true → u ≡ false → ⊥
not-both u e f = let z : true ≡ false = sym e ∙ f in cc

all-by : {X : Type 0} (p : X → Bool) (xs : List X) → ((x : X) → Member x xs → p x ≡ true) → list_all p xs ≡ true
all-by p [] h = refl
all-by p (x ∷ xs) h = λ k. h x first k && all-by p xs (λ y m. h y (later m)) k

module _ (t : Target) (x : LiveFunc) (may : MayCoalesce t x) (id : ℕ) (j : Join) (join : join_at t x.func id ≡ Some j) where
  -- a range of the join
  abbrev IsSide : ℕ → Type 0
  IsSide v = (v ≡ j.keep) ⊎ (v ≡ j.gone)

  partners : IsAsked t x.func j
  partners = asked-of t x may id j join

  abbrev f : Function
  f = x.func

  abbrev slots : Numbers
  slots = x.table.order.slots

  abbrev row : ℕ → ℕ → Seen
  row n p = rows_seen x.table.rows.rows.items n p

  abbrev HasNumber : ℕ → ℕ → ℕ → Type 0
  HasNumber v k n = number_in x.table.lanes (owners.Range v k) ≡ Some n

  module _ (p q : ℕ) (b : Block) (i : Instr) (place : slice_get f.blocks p ≡ Some b) (there : slice_get b.instrs q ≡ Some i) where
    abbrev item : Item
    item = item_of t f b i

    -- the copies that are asked for are those of the instruction
    sides-are : (s : Begun) → i.id ≡ s.start → sides_in t (instr_of f s.start) ≡ copy_sides t i
    sides-are s own = ap (λ k. sides_in t (instr_of f k)) (sym own) ∙ ap (sides_in t) (found-here t x may p q b i place there)

    copies-are : (w : Write) (v k : ℕ) (c : ℕ × ℕ) → Member w (writes_of item) → w.lane ≡ VirtualLane v k → IsSide v → partner t j v k ≡ Some c
        → copies (image t j) w.lane w.fill ≡ (copies_lane t (copy_sides t i) (v, k) c || copies_lane t (copy_sides t i) (v, k) (v, k))
    copies-are w v k c mw wl side pair = by-sides t x may j partners b i (slice-member f.blocks p b place) (slice-member b.instrs q i there) w mw v k c wl side pair

    module _ (v k n : ℕ) (c : ℕ × ℕ) (m : ℕ) (own : HasNumber v k n) (other : HasNumber c.0 c.1 m) where
      abbrev A : Lane
      A = VirtualLane v k

      abbrev L : Lane
      L = VirtualLane c.0 c.1

      abbrev Lost : Write → Type 0
      Lost w = (LiveAt t f (Exit i.id) L → ⊥) × ((u : Write) → Member u (writes_of item) → u.lane ≡ L → ⊥) × (w.early ≡ true → LiveAt t f (Entry i.id) L → ⊥)

      -- a writing that is apart from the other lane loses no value of it
      pub told-apart : (s : Begun) → Member s (row n p).segments → i.id ≡ s.start → is_apart slots (row m p) s ≡ true → (w : Write) → Member w (writes_of item) → w.lane ≡ A → Lost w
      told-apart s among at apart w mw wl =
          let z = apart-of (seen_at slots (row m p) (exit_rank slots s.start)) (is_written_at slots (row m p) (exit_rank slots s.start)) s.early (seen_at slots (row m p) (entry_rank slots s.start)) apart in
          let lives = live-exit t x may p q b i place there c.0 c.1 m other in
          let wrote = written-exit t x may p q b i place there c.0 c.1 m other in
          let enters = live-entry t x may p q b i place there c.0 c.1 m other in
          let early = begun-early t x may p q b i place there v k n own s among at in (
            (λ h. not-both (seen_at slots (row m p) (exit_rank slots i.id)) (lives.1 h) (ap (λ g. seen_at slots (row m p) (exit_rank slots g)) at ∙ z.0)),
            (λ u mu ul. not-both (is_written_at slots (row m p) (exit_rank slots i.id)) (wrote.1 (u, mu, ul)) (ap (λ g. is_written_at slots (row m p) (exit_rank slots g)) at ∙ z.1)),
            (λ e h. not-both (seen_at slots (row m p) (entry_rank slots i.id)) (enters.1 h) (ap (λ g. seen_at slots (row m p) (entry_rank slots g)) at ∙ z.2 (early.1 (w, mw, wl, e)))),
          )

      -- and one that loses none is apart
      pub apart-told : (s : Begun) → Member s (row n p).segments → i.id ≡ s.start → (w : Write) → (s.early ≡ true → w.early ≡ true) → Lost w → is_apart slots (row m p) s ≡ true
      apart-told s among at w early lost =
          let lives = live-exit t x may p q b i place there c.0 c.1 m other in
          let wrote = written-exit t x may p q b i place there c.0 c.1 m other in
          let enters = live-entry t x may p q b i place there c.0 c.1 m other in
          let none : (writing : (u : Write) × Member u (writes_of item) × (u.lane ≡ L)) → ⊥ = λ u. lost.1 u.0 u.1 u.2 in
          subst (λ g. (not (seen_at slots (row m p) (exit_rank slots g)) && not (is_written_at slots (row m p) (exit_rank slots g)) && not (s.early && seen_at slots (row m p) (entry_rank slots g))) ≡ true) at
          (of-apart (seen_at slots (row m p) (exit_rank slots i.id)) (is_written_at slots (row m p) (exit_rank slots i.id)) s.early (seen_at slots (row m p) (entry_rank slots i.id))
          (not-true (seen_at slots (row m p) (exit_rank slots i.id)) (λ h. lost.0 (lives.0 h)))
          (not-true (is_written_at slots (row m p) (exit_rank slots i.id)) (λ h. none (wrote.0 h)))
          (λ e. not-true (seen_at slots (row m p) (entry_rank slots i.id)) (λ h. lost.2 (early e) (enters.0 h))))

  -- from the table to the instructions

  module _ (asks : AsksQuiet t x j) where
    asks-lane : (v k : ℕ) → IsSide v → IsQuietLane t x j v k
    asks-lane v k (inl e) = subst (λ g. IsQuietLane t x j g k) (sym e) (asks.0 k)
    asks-lane v k (inr e) = subst (λ g. IsQuietLane t x j g k) (sym e) (asks.1 k)

    module _ (p q : ℕ) (b : Block) (i : Instr) (place : slice_get f.blocks p ≡ Some b) (there : slice_get b.instrs q ≡ Some i) (w : Write) (mw : Member w (writes_of (item_of t f b i))) (plain : copies (image t j) w.lane w.fill ≡ false) where
      abbrev Kept : Lane → Type 0
      Kept l = (LiveAt t f (Exit i.id) l → ⊥) × ((u : Write) → Member u (writes_of (item_of t f b i)) → u.lane ≡ l → ⊥) × (w.early ≡ true → LiveAt t f (Entry i.id) l → ⊥)

      asked-kept : (v k n : ℕ) (c : ℕ × ℕ) (m : ℕ) → HasNumber v k n → HasNumber c.0 c.1 m → IsSide v → partner t j v k ≡ Some c → w.lane ≡ VirtualLane v k → Kept (VirtualLane c.0 c.1)
      asked-kept v k n c m own other side pair wl =
          let s = writes-begun t x may p q b i place there v k n own (w, mw, wl) in
          let test = all-of (is_quiet_writing t x (v, k) c (row m p)) s.0 (row n p).segments s.1 (asks-lane v k side c pair n own m other p) in
          let none = none-of (copies_lane t (copy_sides t i) (v, k) c) (copies_lane t (copy_sides t i) (v, k) (v, k)) (sym (copies-are p q b i place there w v k c mw wl side pair) ∙ plain) in
          let sides = sides-are p q b i place there s.0 s.2 in
          told-apart p q b i place there v k n c m own other s.0 s.1 s.2
          (last-one (is_apart slots (row m p) s.0) (copies_lane t (sides_in t (instr_of f s.0.start)) (v, k) c) (copies_lane t (sides_in t (instr_of f s.0.start)) (v, k) (v, k)) test
          (ap (λ o. copies_lane t o (v, k) c) sides ∙ none.0) (ap (λ o. copies_lane t o (v, k) (v, k)) sides ∙ none.1))
          w mw wl

      numbered-kept : (v k : ℕ) (c : ℕ × ℕ) → IsSide v → partner t j v k ≡ Some c → w.lane ≡ VirtualLane v k → Kept (VirtualLane c.0 c.1)
      numbered-kept v k c side pair wl = go (number_in x.table.lanes (owners.Range v k)) (number_in x.table.lanes (owners.Range c.0 c.1)) refl refl
        where
          go : (a d : Option ℕ) → number_in x.table.lanes (owners.Range v k) ≡ a → number_in x.table.lanes (owners.Range c.0 c.1) ≡ d → Kept (VirtualLane c.0 c.1)
          go None d e h = absurd (unwritten t x may p q b i place there v k e (w, mw, wl))
          go (Some n) None e h = (
            dead-exit t x may p q b i place there c.0 c.1 h,
            (λ u mu ul. unwritten t x may p q b i place there c.0 c.1 h (u, mu, ul)),
            (λ early. dead-entry t x may p q b i place there c.0 c.1 h),
          )
          go (Some n) (Some m) e h = asked-kept v k n c m e h side pair wl

      partner-kept : (v k : ℕ) → w.lane ≡ VirtualLane v k → (l : Lane) → IsLane t f l → image t j l ≡ image t j w.lane → same_lane l w.lane ≡ false → Kept l
      partner-kept v k wl l lane same apart =
          let own = subst (IsLane t f) wl (written-lane t x may b i w (slice-member f.blocks p b place) (slice-member b.instrs q i there) mw) in
          let y = partner-of t f j partners l v k lane own (same ∙ ap (image t j) wl) (ap (same_lane l) (sym wl) ∙ apart) in
          subst Kept (sym y.3) (numbered-kept v k y.1 y.0 y.2 wl)

      -- a lane that is live or written is one of its class
      by-lane : (l : Lane) → (IsLane t f l → Kept l) → Kept l
      by-lane l h = (
        (λ e. (h (live-lane t x may (Exit i.id) l e)).0 e),
        (λ u mu ul. (h (subst (IsLane t f) ul (written-lane t x may b i u (slice-member f.blocks p b place) (slice-member b.instrs q i there) mu))).1 u mu ul),
        (λ early e. (h (live-lane t x may (Entry i.id) l e)).2 early e),
      )

      kept-of : (l : Lane) → image t j l ≡ image t j w.lane → same_lane l w.lane ≡ false → Kept l
      kept-of l same apart = go w.lane refl
        where
          go : (d : Lane) → w.lane ≡ d → Kept l
          go (VirtualLane v k) wl = by-lane l (λ lane. partner-kept v k wl l lane same apart)
          go (UnitLane u) wl = absurd (not-writes t j l w.lane (ap is_range_lane wl) same apart)
          go (SlotLane s k g) wl = absurd (not-writes t j l w.lane (ap is_range_lane wl) same apart)

    pub instrs-quiet : QuietInstrs t f (image t j)
    instrs-quiet p q b i place there w mw plain l same apart = kept-of p q b i place there w mw plain l same apart

  -- and back

  module _ (quiet : QuietInstrs t f (image t j)) where
    module _ (v k n : ℕ) (c : ℕ × ℕ) (m : ℕ) (own : HasNumber v k n) (other : HasNumber c.0 c.1 m) (side : IsSide v) (pair : partner t j v k ≡ Some c) (p : ℕ) (s : Begun) (among : Member s (row n p).segments) where
      abbrev test : Bool
      test = is_quiet_writing t x (v, k) c (row m p) s

      module _ (q : ℕ) (b : Block) (i : Instr) (place : slice_get f.blocks p ≡ Some b) (there : slice_get b.instrs q ≡ Some i) (at : i.id ≡ s.start) where
        by-write : (w : Write) → Member w (writes_of (item_of t f b i)) → w.lane ≡ VirtualLane v k → (s.early ≡ true → w.early ≡ true) → test ≡ true
        by-write w mw wl early = go (copies (image t j) w.lane w.fill) refl
          where
            go : (u : Bool) → copies (image t j) w.lane w.fill ≡ u → test ≡ true
            go true e =
                let sides = sides-are p q b i place there s at in
                let copy = sym (copies-are p q b i place there w v k c mw wl side pair) ∙ e in
                by-copies (is_apart slots (row m p) s) (copies_lane t (sides_in t (instr_of f s.start)) (v, k) c) (copies_lane t (sides_in t (instr_of f s.start)) (v, k) (v, k))
                (ap (λ o. copies_lane t o (v, k) c || copies_lane t o (v, k) (v, k)) sides ∙ copy)
            go false e =
                by-apart t x (v, k) c (row m p) s (apart-told p q b i place there v k n c m own other s among at w early
                (let z = partner-same t f j partners v k c side pair in quiet p q b i place there w mw e (VirtualLane c.0 c.1) (z.0 ∙ ap (image t j) (sym wl)) (ap (same_lane (VirtualLane c.0 c.1)) wl ∙ z.1)))

        by-instr : (u : Bool) → s.early ≡ u → test ≡ true
        by-instr true e = let w = (begun-early t x may p q b i place there v k n own s among at).0 e in by-write w.0 w.1 w.2 (λ h. w.3)
        by-instr false e = let w = begun-writes t x may p q b i place there v k n own s among at in by-write w.0 w.1 w.2 (λ h. absurd (not-both s.early h e))

      passes : test ≡ true
      passes = let z = begun-instr t x may n p s among in by-instr z.1 z.0 z.2 z.3 z.4 z.5 s.early refl

    lane-quiet : (v k : ℕ) → IsSide v → IsQuietLane t x j v k
    lane-quiet v k side c pair n own m other p = all-by (is_quiet_writing t x (v, k) c (row m p)) (row n p).segments (λ s among. passes v k n c m own other side pair p s among)

    pub asks-quiet : AsksQuiet t x j
    asks-quiet = ((λ k. lane-quiet j.keep k (inl refl)), (λ k. lane-quiet j.gone k (inr refl)))

-- what a join asks of the table is told instruction by instruction
pub asked-instrs : AskedByInstrs
asked-instrs t x id j may join = (instrs-quiet t x may id j join, asks-quiet t x may id j join)
