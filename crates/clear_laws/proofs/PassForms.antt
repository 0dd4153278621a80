-- Lanes of one slot that go to lanes of another through a further register, in place of instructions that name the range.
use Rattle.std.proofs.Common.{◌≡◌, ◌≤◌, ◌⊎◌, inl, inr, ◌∷◌, ◌++◌, ◌∙◌, ℕ, Bool, true, false, List, length, map, refl, sym, ap, subst, []}
use Rattle.std.proofs.lemmas.List.{length-map}
use Rattle.target_base.specs.declared.types.Target.{Target}
use Rattle.meaning.specs.Code.{Code, Silent}
use Rattle.meaning.specs.Lanes.{Writes, filled, through, settled}
use Rattle.meaning.specs.Live.{Among as Member, Writing, after_next, is_slot, next, store}
use Rattle.meaning.specs.declared.types.Fill.TheVariants.{Moved}
use Rattle.meaning.specs.declared.types.Lane.{Lane}
use Rattle.meaning.specs.declared.types.Lane.TheVariants.{SlotLane, VirtualLane}
use Rattle.meaning.specs.declared.types.Source.{Source}
use Rattle.meaning.specs.declared.types.Source.TheVariants.{FromLane, Undef}
use Rattle.mir_func.specs.Value.{Function}
use Rattle.mir_meaning.specs.Items.{at_all_widths, moved, undefined}
use Rattle.mir_meaning.specs.Registers.{numbers}
use Rattle.instr_effects.proofs.Members.{either-elim, left-in, map-of, right-in}
use Rattle.lowering_laws.proofs.Traced.{filled-free, filled-left, filled-right, is_one, is_written, lanes_by, written-append}
use Rattle.spiller.specs.Setting.{Spilling}
use Rattle.spiller.specs.Spilled.{spilled}
use Rattle.spill_laws.specs.Seats.{source_at}
use Rattle.spill_laws.specs.Standing.{IsSite, IsStored, slot_lane}
use Rattle.spill_laws.proofs.Chains.{Linked, both, count-lanes, linked, map-long, none, passed-source, tiny_lanes}
use Rattle.spill_laws.proofs.SlotPlaces.{home, width}
use Rattle.spill_laws.proofs.SlotWrites.{early-through, moved-lane, moved-written, not-written, of-one, one-of, range-written, slot-lane-of, slot_by, store_writes, stored-filled, undefined-lane, undefined-written, write-of, written-left, written-right}
use Rattle.spill_laws.proofs.SpillItems.{numbers-long}
use Rattle.spill_laws.proofs.Standing.{unwritten as not-wrote}
use Rattle.clear_laws.proofs.PlaceBounds.{Wrote, as-itself, as-range, slot-same, unwritten, wrote-or-not}
use Rattle.clear_laws.proofs.Passed.{IsPassed}
use Rattle.clear_laws.proofs.Replaced.{Told-of}
use Rattle.clear_laws.proofs.SilentForms.{IsFine, KeptHere, LiveHere, MayHere, from-own, not-fine, range-number}
use Rattle.clear_laws.proofs.SilentLists.{all-widths-in, all-widths-of, moved-out, undefined-in}
use Rattle.clear_laws.proofs.SpillPoints.{goes-on, is-stored, is-wide}
use Rattle.clear_laws.proofs.SplitPoints.{free}

source-lane : (a b : Lane) → FromLane a ≡ FromLane b → a ≡ b
source-lane a b e = cc

moved-inj : (p q : Source) → Moved p ≡ Moved q → p ≡ q
moved-inj p q e = cc

module _ (s : Spilling) where
  abbrev t : Target
  t = s.target

  abbrev f : Function
  f = s.func

  abbrev v : ℕ
  v = s.range

  -- A load of n lanes of a further register r from lanes of a slot, and a store of them to others.
  module _ (fs : Writes) (soon : Bool) (r n : ℕ) (us : List Source) (ls rest : List Lane) (p : Code) (further : length s.func.classes ≤ r) (many : n ≤ length us) (reads : (l : Lane) → Member (FromLane l) us → is_slot l ≡ true)
      (slots : (a : Lane) → Member a (ls ++ rest) → is_slot a ≡ true) where
    abbrev tinies : List Lane
    tinies = lanes_by r (numbers 0 n)

    abbrev rs : Writes
    rs = moved soon tinies us

    abbrev stored : Writes
    stored = moved false ls (map FromLane tinies)

    abbrev gs : Writes
    gs = stored ++ undefined false rest

    abbrev pub Passing : Type 0
    Passing = IsPassed t f (spilled s) v s.slot (is-wide s) (is-stored s) fs rs gs p

    tiny-of : (a : Lane) → Member a tinies → (c : ℕ) × (k : ℕ) × (a ≡ VirtualLane c k) × (length s.func.classes ≤ c)
    tiny-of a m = let z = map-of (VirtualLane r) a (numbers 0 n) m in (r, z.0, z.2, further)

    stored-in : (a : Lane) → Wrote gs a → Member a (ls ++ rest)
    stored-in a z =
        subst (λ b. Member b (ls ++ rest)) z.2
        (either-elim z.0 stored (undefined false rest)
        (λ m. left-in z.0.lane ls rest (moved-lane false ls (map FromLane tinies) z.0 m))
        (λ m. right-in z.0.lane ls rest (undefined-lane false rest z.0 m).0) z.1)

    not-stored : (a : Lane) → is_written gs a ≡ false → Wrote gs a → ⊥
    not-stored a e z = not-wrote gs a e z.0 z.1 z.2

    -- what a lane holds behind the store
    data Saved (b a : Lane) : Type 0 where
      kept : a ≡ b → (Wrote gs b → ⊥) → Saved b a
      from-tiny : is_written stored b ≡ true → Member a tinies → Saved b a

    saved-as : (b a : Lane) → filled gs b ≡ Moved (FromLane a) → Saved b a
    saved-as b a h = go (is_written stored b) (is_written (undefined false rest) b) refl refl
      where
        go : (x y : Bool) → is_written stored b ≡ x → is_written (undefined false rest) b ≡ y → Saved b a
        go true y e g =
            let m = moved-out false ls (map FromLane tinies) b a e (sym (filled-left stored (undefined false rest) b e) ∙ h) in
            let z = map-of FromLane (FromLane a) tinies m in
            from-tiny e (subst (λ c. Member c tinies) (sym (source-lane a z.0 z.2)) z.1)
        go false true e g =
            let z = write-of (undefined false rest) b g in
            let m = subst (λ c. Member c rest) z.2 (undefined-lane false rest z.0 z.1).0 in
            absurd (let q : Moved Undef ≡ Moved (FromLane a) = sym (undefined-in false rest b m) ∙ (sym (filled-right stored (undefined false rest) b e) ∙ h) in cc)
        go false false e g =
            let w = written-append stored (undefined false rest) b e g in
            kept (source-lane a b (moved-inj (FromLane a) (FromLane b) (sym h ∙ filled-free gs b w))) (not-stored b w)

    tiny-count : (b n : ℕ) → length (lanes_by r (numbers b n)) ≡ n
    tiny-count b n = length-map (numbers b n) (VirtualLane r) ∙ numbers-long b n

    wrote-tiny : (a : Lane) → Member a tinies → Wrote rs a
    wrote-tiny a m = write-of rs a (moved-written soon tinies us a (subst (λ k. k ≤ length us) (sym (tiny-count 0 n)) many) m)

    passing : ((a : Lane) → Member a (ls ++ rest) → Wrote gs a → Told-of t f (spilled s) v s.slot (is-wide s) (is-stored s) (Writing (Silent [] fs)) a)
        → ((b : Lane) → MayHere s p b → (Wrote gs b → ⊥) → MayHere s (Silent [] fs ∷ p) b)
        → ((m k u w : ℕ) (a l : Lane) → MayHere s p (SlotLane m k u) → filled gs (SlotLane m k w) ≡ Moved (FromLane a) → is_written stored (SlotLane m k w) ≡ true → filled rs a ≡ Moved (FromLane l) → MayHere s (Silent [] fs ∷ p) l)
        → Passing
    passing saved stays passes = record {
      load_lanes = λ a z. tiny-of a (subst (λ b. Member b tinies) z.2 (moved-lane soon tinies us z.0 z.1));
      load_gives = λ a l h. loads a l h (is_written rs a) refl;
      save_lanes = λ a z. slots a (stored-in a z);
      saved = λ a z. saved a (stored-in a z) z;
      save_gives = λ b a h. gives b a (saved-as b a h);
      stays = stays;
      passes = λ m k u w a l c h z g. passes-on m k u w a l c h z g (saved-as (SlotLane m k w) a h);
    }
      where
        loads : (a l : Lane) → filled rs a ≡ Moved (FromLane l) → (b : Bool) → is_written rs a ≡ b → ((l ≡ a) × (Wrote rs a → ⊥)) ⊎ (Wrote rs a × (is_slot l ≡ true))
        loads a l h true e = inr (write-of rs a e, reads l (moved-out soon tinies us a l e h))
        loads a l h false e = inl (source-lane l a (moved-inj (FromLane l) (FromLane a) (sym h ∙ filled-free rs a e)), λ z. not-wrote rs a e z.0 z.1 z.2)

        gives : (b a : Lane) → Saved b a → ((a ≡ b) × (Wrote gs b → ⊥)) ⊎ (Wrote gs b × ((c : ℕ) × (k : ℕ) × (a ≡ VirtualLane c k) × (length s.func.classes ≤ c)) × Wrote rs a)
        gives b a (kept e n) = inl (e, n)
        gives b a (from-tiny e m) = inr (write-of gs b (written-left stored (undefined false rest) b e), tiny-of a m, wrote-tiny a m)

        passes-on : (m k u w : ℕ) (a l : Lane) → MayHere s p (SlotLane m k u) → filled gs (SlotLane m k w) ≡ Moved (FromLane a) → Wrote rs a → filled rs a ≡ Moved (FromLane l) → Saved (SlotLane m k w) a → MayHere s (Silent [] fs ∷ p) l
        passes-on m k u w a l c h z g (from-tiny e q) = passes m k u w a l c h e g
        passes-on m k u w a l c h z g (kept e n) =
            let y = tiny-of a (subst (λ b. Member b tinies) z.2 (moved-lane soon tinies us z.0 z.1)) in
            absurd (let q : SlotLane m k w ≡ VirtualLane y.0 y.1 = sym e ∙ y.2 in cc)

  -- Lanes of the range get sources ss. Their lanes of the slot get sources us through the further register.
  module _ (d : ℕ) (early soon : Bool) (r : ℕ) (ks : List ℕ) (ss us : List Source) (p : Code) (further : length s.func.classes ≤ r) (long : length ks ≤ length ss) (also : length ks ≤ length us)
      (site : IsSite s d (Silent [] (moved early (lanes_by s.range ks) ss)) p) (reads : (l : Lane) → Member (FromLane l) us → is_slot l ≡ true)
      (gives : (k : ℕ) (l : Lane) → is_one ks k ≡ true → source_at ks us k ≡ FromLane l → LiveHere s p (VirtualLane s.range k) → IsStored s k p → MayHere s (Silent [] (moved early (lanes_by s.range ks) ss) ∷ p) l) where
    abbrev fs : Writes
    fs = moved early (lanes_by s.range ks) ss

    abbrev tiny : List Source
    tiny = map FromLane (tiny_lanes r 0 (length ks))

    abbrev saves : Writes
    saves = store_writes s.slot (width s) t ks tiny

    abbrev Wrote-own : ℕ → Type 0
    Wrote-own k = Writing (Silent [] fs) (VirtualLane v k)

    own-of : (k : ℕ) → Wrote-own k → is_one ks k ≡ true
    own-of k z =
        let y = map-of (VirtualLane v) z.0.lane ks (moved-lane early (lanes_by v ks) ss z.0 z.1) in
        subst (λ j. is_one ks j ≡ true) (range-number v y.0 k (sym y.2 ∙ z.2)) (one-of ks y.0 y.1)

    own-in : (k : ℕ) → is_one ks k ≡ true → Wrote-own k
    own-in k e = write-of fs (VirtualLane v k) (range-written v early ks ss k long e)

    else-free : (a : Lane) → ((k : ℕ) → a ≡ VirtualLane v k → ⊥) → filled fs a ≡ Moved (FromLane a)
    else-free a h = filled-free fs a (not-written fs a (λ w m e. let y = map-of (VirtualLane v) w.lane ks (moved-lane early (lanes_by v ks) ss w m) in h y.0 (sym e ∙ y.2)))

    slots-apart : (k w : ℕ) → LiveHere s p (SlotLane s.slot k w) → Wrote-own k → ⊥
    slots-apart k w live z = site.apart k k w (inr z) (inl (after_next refl live))

    all-slots : (a : Lane) → Member a (slot_by s.slot (width s) ks ++ at_all_widths t s.slot ks) → (k : ℕ) × (w : ℕ) × Member k ks × (a ≡ SlotLane s.slot k w)
    all-slots a m =
        either-elim a (slot_by s.slot (width s) ks) (at_all_widths t s.slot ks)
        (λ q. let z = slot-lane-of s.slot (width s) ks a q in (z.0, width s z.0, z.1, z.2))
        (λ q. let z = all-widths-of t s.slot ks a q in (z.0, z.1, z.2, z.4)) m

    definition-stays : (b : Lane) → MayHere s p b → (Wrote saves b → ⊥) → MayHere s (Silent [] fs ∷ p) b
    definition-stays b (inl z) n = inl (z.0, next refl z.1 (else-free b (λ k e. not-fine s b k e z.0)) (free z.1))
    definition-stays b (inr z) n = inr (record { k = z.k; w = z.w; is = z.is; fits = z.fits; from = go z.from })
      where
        unsaved : Wrote-own z.k → ⊥
        unsaved q =
            let m = all-widths-in t s.slot ks z.k z.w (of-one ks z.k (own-of z.k q)) z.fits in
            let w = undefined-written false (at_all_widths t s.slot ks) (SlotLane s.slot z.k z.w) m in
            n (subst (Wrote saves) (sym z.is) (write-of saves (SlotLane s.slot z.k z.w) (written-right (moved false (slot_by s.slot (width s) ks) tiny) (undefined false (at_all_widths t s.slot ks)) (SlotLane s.slot z.k z.w) w)))

        go : KeptHere s p z.k → KeptHere s (Silent [] fs ∷ p) z.k
        go (inl y) = inl (y.0, y.1, next refl y.2 (else-free (SlotLane s.slot z.k y.0) (λ j e. (cc))) refl)
        go (inr y) = inr (next refl y.0 (unwritten fs (VirtualLane v z.k) unsaved) refl, (goes-on s).back (Silent [] fs) p z.k refl unsaved y.1)

    -- what a lane of the slot that is stored gets
    stored-source : (m k w : ℕ) (a l : Lane) → filled saves (SlotLane m k w) ≡ Moved (FromLane a) → is_written (moved false (slot_by s.slot (width s) ks) tiny) (SlotLane m k w) ≡ true → filled (moved soon (tiny_lanes r 0 (length ks)) us) a ≡ Moved (FromLane l)
        → (m ≡ s.slot) × (is_one ks k ≡ true) × (source_at ks us k ≡ FromLane l)
    stored-source m k w a l h e g =
        let z = write-of (moved false (slot_by s.slot (width s) ks) tiny) (SlotLane m k w) e in
        let y = slot-lane-of s.slot (width s) ks z.0.lane (moved-lane false (slot_by s.slot (width s) ks) tiny z.0 z.1) in
        let n = slot-same m s.slot k y.0 w (width s y.0) (sym z.2 ∙ y.2) in
        let one : is_one ks k ≡ true = subst (λ j. is_one ks j ≡ true) (sym n.1) (one-of ks y.0 y.1) in
        let given : filled saves (SlotLane s.slot y.0 (width s y.0)) ≡ Moved (FromLane a) = subst (λ b. filled saves b ≡ Moved (FromLane a)) (sym z.2 ∙ y.2) h in
        let at : source_at ks tiny y.0 ≡ FromLane a = moved-inj (source_at ks tiny y.0) (FromLane a) (sym (stored-filled s.slot (width s) t ks tiny y.0 (tinies-long r ks) (one-of ks y.0 y.1)) ∙ given) in
        let passed : settled (through (moved false (tiny_lanes r 0 (length ks)) us) (FromLane a)) ≡ source_at ks us y.0 = subst (λ q. settled (through (moved false (tiny_lanes r 0 (length ks)) us) q) ≡ source_at ks us y.0) at (passed-source r 0 ks us y.0 also (one-of ks y.0 y.1)) in
        let loaded : settled (through (moved false (tiny_lanes r 0 (length ks)) us) (FromLane a)) ≡ FromLane l = ap settled (sym (early-through soon (tiny_lanes r 0 (length ks)) us (FromLane a)) ∙ g) in
        (n.0, one, subst (λ j. source_at ks us j ≡ FromLane l) (sym n.1) (sym passed ∙ loaded))
      where
        tinies-long : (c : ℕ) (ks : List ℕ) → length ks ≤ length (map FromLane (tiny_lanes c 0 (length ks)))
        tinies-long c ks = count-lanes c 0 ks

    definition-passes : (m k u w : ℕ) (a l : Lane) → MayHere s p (SlotLane m k u) → filled saves (SlotLane m k w) ≡ Moved (FromLane a) → is_written (moved false (slot_by s.slot (width s) ks) tiny) (SlotLane m k w) ≡ true → filled (moved soon (tiny_lanes r 0 (length ks)) us) a ≡ Moved (FromLane l)
        → MayHere s (Silent [] fs ∷ p) l
    definition-passes m k u w a l c h e g = go c
      where
        z : (m ≡ s.slot) × (is_one ks k ≡ true) × (source_at ks us k ≡ FromLane l)
        z = stored-source m k w a l h e g

        by : (j : ℕ) → k ≡ j → KeptHere s p j → MayHere s (Silent [] fs ∷ p) l
        by j q (inl y) = absurd (slots-apart j y.0 y.2 (own-in j (subst (λ i. is_one ks i ≡ true) q z.1)))
        by j q (inr y) = gives j l (subst (λ i. is_one ks i ≡ true) q z.1) (subst (λ i. source_at ks us i ≡ FromLane l) q z.2) y.0 y.1

        go : MayHere s p (SlotLane m k u) → MayHere s (Silent [] fs ∷ p) l
        go (inl y) = absurd (slots-apart k u (subst (λ j. LiveHere s p (SlotLane j k u)) z.0 y.1) (own-in k z.1))
        go (inr y) = by y.k (slot-same m s.slot k y.k u y.w y.is).1 y.from

    pub definition-passing : IsPassed t f (spilled s) v s.slot (is-wide s) (is-stored s) fs (moved soon (tiny_lanes r 0 (length ks)) us) saves p
    definition-passing =
        passing fs soon r (length ks) us (slot_by s.slot (width s) ks) (at_all_widths t s.slot ks) p further also reads (λ a m. let z = all-slots a m in ap is_slot z.3)
        (λ a m z. let y = all-slots a m in as-range y.0 y.1 y.3 (own-in y.0 (one-of ks y.0 y.2)))
        definition-stays definition-passes

  -- A store of lanes of the range to lanes of a slot.
  module _ (d : ℕ) (soon : Bool) (r m : ℕ) (sl : List Lane) (js ks : List ℕ) (p : Code) (further : length s.func.classes ≤ r) (long : length sl ≤ length ks)
      (site : IsSite s d (Silent [] (moved false sl (map (from-own s) ks) ++ undefined false (at_all_widths s.target m js))) p)
      (named : (a : Lane) → Member a sl → (k : ℕ) × (w : ℕ) × Member k js × (a ≡ SlotLane m k w)) (wide : (k : ℕ) → Member k ks → is-wide s (width s k))
      (live-wide : (n k u : ℕ) → LiveHere s p (SlotLane n k u) → is-wide s u)
      (reads : (j : ℕ) (a : Lane) → Member j ks → is_slot a ≡ true → Writing (Silent [] (moved false sl (map (from-own s) ks) ++ undefined false (at_all_widths s.target m js))) a
      → (n k w x : ℕ) → a ≡ SlotLane n k x → filled (moved false sl (map (from-own s) ks) ++ undefined false (at_all_widths s.target m js)) (SlotLane n k w) ≡ Moved (from-own s j)
      → LiveHere s p a → IsStored s j (Silent [] (moved false sl (map (from-own s) ks) ++ undefined false (at_all_widths s.target m js)) ∷ p)) where
    abbrev rest : List Lane
    rest = at_all_widths t m js

    abbrev out : Writes
    out = moved false sl (map (from-own s) ks) ++ undefined false rest

    abbrev tinies-out : List Lane
    tinies-out = tiny_lanes r 0 (length ks)

    abbrev on : Writes
    on = moved false sl (map FromLane tinies-out) ++ undefined false rest

    abbrev in-out : Writes
    in-out = moved soon tinies-out (map (home s) ks)

    lanes-of : (a : Lane) → Member a (sl ++ rest) → (k : ℕ) × (w : ℕ) × Member k js × (a ≡ SlotLane m k w)
    lanes-of a q = either-elim a sl rest (named a) (λ y. let z = all-widths-of t m js a y in (z.0, z.1, z.2, z.4)) q

    out-in : (a : Lane) → Wrote out a → Member a (sl ++ rest)
    out-in a z =
        subst (λ b. Member b (sl ++ rest)) z.2
        (either-elim z.0 (moved false sl (map (from-own s) ks)) (undefined false rest)
        (λ q. left-in z.0.lane sl rest (moved-lane false sl (map (from-own s) ks) z.0 q))
        (λ q. right-in z.0.lane sl rest (undefined-lane false rest z.0 q).0) z.1)

    writes-out : (a : Lane) → Member a (sl ++ rest) → Wrote out a
    writes-out a q = either-elim a sl rest (λ y. write-of out a (written-left (moved false sl (map (from-own s) ks)) (undefined false rest) a (moved-written false sl (map (from-own s) ks) a (subst (λ n. length sl ≤ n) (sym (length-map ks (from-own s))) long) y))) (λ y. write-of out a (written-right (moved false sl (map (from-own s) ks)) (undefined false rest) a (undefined-written false rest a y))) q

    writes-on : (a : Lane) → Member a (sl ++ rest) → Wrote on a
    writes-on a q =
        either-elim a sl rest
        (λ y. write-of on a (written-left (moved false sl (map FromLane tinies-out)) (undefined false rest) a (moved-written false sl (map FromLane tinies-out) a (subst (λ n. length sl ≤ n) (sym tinies-many) long) y)))
        (λ y. write-of on a (written-right (moved false sl (map FromLane tinies-out)) (undefined false rest) a (undefined-written false rest a y))) q
      where
        tinies-many : length (map FromLane tinies-out) ≡ length ks
        tinies-many = length-map tinies-out FromLane ∙ (length-map (numbers 0 (length ks)) (VirtualLane r) ∙ numbers-long 0 (length ks))

    own-free : (k : ℕ) → Wrote out (VirtualLane v k) → ⊥
    own-free k z = let y = lanes-of (VirtualLane v k) (out-in (VirtualLane v k) z) in let q : VirtualLane v k ≡ SlotLane m y.0 y.1 = y.3 in cc

    out-stays : (b : Lane) → MayHere s p b → (Wrote on b → ⊥) → MayHere s (Silent [] out ∷ p) b
    out-stays b (inl z) n = inl (z.0, next refl z.1 (unwritten out b (λ w. n (writes-on b (out-in b w)))) (free z.1))
    out-stays b (inr z) n = inr (record { k = z.k; w = z.w; is = z.is; fits = z.fits; from = go z.from })
      where
        unsaved : (u : ℕ) → Wrote out (SlotLane s.slot z.k u) → ⊥
        unsaved u w =
            let y = lanes-of (SlotLane s.slot z.k u) (out-in (SlotLane s.slot z.k u) w) in
            let q = slot-same s.slot m z.k y.0 u y.1 y.3 in
            let is : b ≡ SlotLane m y.0 z.w = z.is ∙ (λ j. SlotLane (q.0 j) (q.1 j) z.w) in
            n (subst (Wrote on) (sym is) (writes-on (SlotLane m y.0 z.w) (right-in (SlotLane m y.0 z.w) sl rest (all-widths-in t m js y.0 z.w y.2 z.fits))))

        go : KeptHere s p z.k → KeptHere s (Silent [] out ∷ p) z.k
        go (inl y) = inl (y.0, y.1, next refl y.2 (unwritten out (SlotLane s.slot z.k y.0) (unsaved y.0)) refl)
        go (inr y) = inr (next refl y.0 (unwritten out (VirtualLane v z.k) (own-free z.k)) refl, (goes-on s).back (Silent [] out) p z.k refl (own-free z.k) y.1)

    out-passes : (n k u w : ℕ) (a l : Lane) → MayHere s p (SlotLane n k u) → filled on (SlotLane n k w) ≡ Moved (FromLane a) → is_written (moved false sl (map FromLane tinies-out)) (SlotLane n k w) ≡ true → filled in-out a ≡ Moved (FromLane l)
        → MayHere s (Silent [] out ∷ p) l
    out-passes n k u w a l c h e g = go (linked (from-own s) (home s) r false false 0 sl ks (SlotLane n k w))
      where
        as-early : filled (moved false tinies-out (map (home s) ks)) a ≡ Moved (FromLane l)
        as-early = sym (early-through soon tinies-out (map (home s) ks) (FromLane a)) ∙ g

        live-by : (j x : ℕ) → Member j ks → filled out (SlotLane n k w) ≡ Moved (from-own s j) → is-wide s x → LiveHere s p (SlotLane n k x) → l ≡ slot_lane s j → MayHere s (Silent [] out ∷ p) l
        live-by j x q fed wx live is =
            let y = lanes-of (SlotLane n k w) (out-in (SlotLane n k w) (write-of out (SlotLane n k w) (written-left (moved false sl (map (from-own s) ks)) (undefined false rest) (SlotLane n k w) (sl-written e)))) in
            let same = slot-same n m k y.0 w y.1 y.3 in
            let wrote : Wrote out (SlotLane n k x) = subst (Wrote out) (λ i. SlotLane (sym same.0 i) (sym same.1 i) x) (writes-out (SlotLane m y.0 x) (right-in (SlotLane m y.0 x) sl rest (all-widths-in t m js y.0 x y.2 wx))) in
            inr (record { k = j; w = width s j; is = is; fits = wide j q; from = inr (store w refl live fed refl refl, reads j (SlotLane n k x) q refl wrote n k w x refl fed live) })
          where
            sl-written : is_written (moved false sl (map FromLane tinies-out)) (SlotLane n k w) ≡ true → is_written (moved false sl (map (from-own s) ks)) (SlotLane n k w) ≡ true
            sl-written e =
                let z = write-of (moved false sl (map FromLane tinies-out)) (SlotLane n k w) e in
                moved-written false sl (map (from-own s) ks) (SlotLane n k w) (subst (λ i. length sl ≤ i) (sym (length-map ks (from-own s))) long) (subst (λ b. Member b sl) z.2 (moved-lane false sl (map FromLane tinies-out) z.0 z.1))

        kept-by : (j : ℕ) → Member j ks → filled out (SlotLane n k w) ≡ Moved (from-own s j) → l ≡ slot_lane s j → MayHere s p (SlotLane n k u) → MayHere s (Silent [] out ∷ p) l
        kept-by j q fed is (inl y) = live-by j u q fed (live-wide n k u y.1) y.1 is
        kept-by j q fed is (inr y) = at y.from
          where
            same : (n ≡ s.slot) × (k ≡ y.k)
            same = slot-same n s.slot k y.k u y.w y.is

            at : KeptHere s p y.k → MayHere s (Silent [] out ∷ p) l
            at (inl z) = live-by j z.0 q fed z.1 (subst (LiveHere s p) (λ i. SlotLane (sym same.0 i) (sym same.1 i) z.0) z.2) is
            at (inr z) = absurd (site.apart y.k k w (inl (after_next refl z.0)) (inr (subst (Wrote out) (λ i. SlotLane (same.0 i) k w) wrote)))
              where
                wrote : Wrote out (SlotLane n k w)
                wrote = by (wrote-or-not out (SlotLane n k w))
                  where
                    by : Wrote out (SlotLane n k w) ⊎ (Wrote out (SlotLane n k w) → ⊥) → Wrote out (SlotLane n k w)
                    by (inl b) = b
                    by (inr b) = absurd (let e : SlotLane n k w ≡ VirtualLane v j = source-lane (SlotLane n k w) (VirtualLane v j) (moved-inj (FromLane (SlotLane n k w)) (from-own s j) (sym (unwritten out (SlotLane n k w) b) ∙ fed)) in cc)

        go : Linked (from-own s) (home s) r 0 ks (moved false sl (map (from-own s) ks)) (moved false sl (map FromLane tinies-out)) (moved false tinies-out (map (home s) ks)) (SlotLane n k w) → MayHere s (Silent [] out ∷ p) l
        go (none x y) = absurd (cc)
        go (both j z q b x y k') =
            let one : a ≡ VirtualLane r z = source-lane a (VirtualLane r z) (moved-inj (FromLane a) (FromLane (VirtualLane r z)) (sym h ∙ y (undefined false rest))) in
            let is : l ≡ slot_lane s j = source-lane l (slot_lane s j) (moved-inj (FromLane l) (home s j) (sym as-early ∙ (ap (filled (moved false tinies-out (map (home s) ks))) one ∙ k'))) in
            kept-by j q (x (undefined false rest)) is c

    pub storing-passing : IsPassed t f (spilled s) v s.slot (is-wide s) (is-stored s) out in-out on p
    storing-passing =
        passing out soon r (length ks) (map (home s) ks) sl rest p further (map-long (home s) ks) (λ l q. let z = map-of (home s) (FromLane l) ks q in ap is_slot (source-lane l (slot_lane s z.0) z.2)) (λ a q. let z = lanes-of a q in ap is_slot z.3)
        (λ a q z. as-itself (let y = lanes-of a q in subst (IsFine s) (sym y.3) tt) (writes-out a q))
        out-stays out-passes
