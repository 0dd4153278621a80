-- Where a table is computed, its tests tell exactly the units in use at the places of copies.
use Rattle.std.proofs.Common.{◌≡◌, ◌⊎◌, ◌∙◌, ℕ, zero, suc, Bool, true, false, cond, not, List, [], ◌∷◌, ◌++◌, Option, Some, None, refl, sym, ap, subst, map, drop, length, inl, inr}
use mathlib.Core.Path.{fun_ext}
use Rattle.std.specs.Prelude.{◌↔◌, ◌&&◌, Decides, find, nat_eq, nat_lt, option_map, slice_get}
use Rattle.std.specs.Ordering.{nat_cmp}
use Rattle.std.specs.BTreeMap.{get}
use Rattle.target_base.specs.declared.types.Target.{Target}
use Rattle.target_base.specs.Numbers.{unit_number}
use Rattle.target_base.proofs.Tests.{first_of_both, second_of_both}
use Rattle.std.proofs.lemmas.Bool.{lt-ltb, ltb-true}
use Rattle.std.proofs.lemmas.Option.{slice_get_within}
use Rattle.std.proofs.Common.{◌<◌, arith}
use Rattle.meaning.specs.declared.types.Lane.{Lane}
use Rattle.meaning.specs.declared.types.Lane.TheVariants.{VirtualLane, UnitLane, SlotLane}
use Rattle.meaning.specs.declared.types.Source.TheVariants.{FromLane}
use Rattle.meaning.specs.declared.types.Fill.TheVariants.{Moved}
use Rattle.meaning.specs.declared.types.Write.{Write}
use Rattle.target_base.specs.declared.types.Effect.{Effect}
use Rattle.target_base.specs.declared.types.Effect.TheVariants as effects
use Rattle.target_base.specs.Roles.{is_silent}
use Rattle.target_base.specs.Rules.{is_phi}
use Rattle.meaning.specs.Code.{Edge, Silent, Counted, Code as Places, found}
use Rattle.meaning.specs.Lanes.{filled}
use Rattle.meaning.specs.Live.{Among as Member, here as first, there as later, Live as LivePlace, LiveAfter, exits_of as edges_of, read, next, leap, phi, store, kept, after_next, after_leap, after_phi}
use Rattle.mir_func.specs.declared.func.Block.{Block}
use Rattle.mir_func.specs.declared.func.Instr.{Instr}
use Rattle.mir_func.specs.Value.{Function}
use Rattle.mir_func.specs.Binding.{does, effect_of, is_early_clobber, is_terminator, passes, roles_of}
use Rattle.mir_meaning.specs.Codes.{block_end, blocks_code, effect_item, instrs_of, item_of, phis_written, target_of, way, ways_out}
use Rattle.mir_meaning.specs.Items.{counted_writes, defined_undef, rest_of, silent_reads, silent_writes, values}
use Rattle.mir_meaning.specs.Registers.{is_reserved, numbers}
use Rattle.target_base.specs.Registers.{is_reserved_unit}
use Rattle.mir_meaning.specs.Points.{Point, Start, Entry, Exit, LiveAt, Tests, AtFirst, point_item, points_of, from_instr}
use Rattle.mir_meaning.specs.Places.{Variable as Need, Needs, AtEntry, AtExit, Admits, UnitsOf, copy_place, solutions}
use Rattle.mir_meaning.specs.Rules.{V8}
use Rattle.instr_effects.proofs.Pairs.{written-of}
use Rattle.instr_effects.proofs.Members.{member-none, member-elim, map-of}
use Rattle.instr_effects.proofs.Plain.{filled-cases, moved-same}
use Rattle.instr_effects.specs.declared.owner.Owner.TheVariants as owners
use Rattle.instr_effects.specs.Numbered.{number_in}
use Rattle.live_laws.specs.Effects.Coded.{KeepsRules, IsNumbered}
use Rattle.live_laws.proofs.Effects.Phis.{phi-write, phi-source}
use Rattle.live_laws.proofs.Effects.Silent.{use-lane}
use Rattle.live_laws.proofs.Effects.Tabled.{table-law}
use Rattle.live_lanes.specs.Marks.{marked_at}
use Rattle.live_lanes.specs.Looks.{entry_at, exit_at}
use Rattle.live_lanes.specs.declared.table.Table.{Table}
use Rattle.live_lanes.specs.Doing.{IsComputed}
use Rattle.live_laws.specs.Exact.Laws.{TellsInside}
use Rattle.live_laws.proofs.Exact.Computed.{computed-law}
use Rattle.live_laws.proofs.Exact.Inside.{inside-law}
use Rattle.live_laws.proofs.Exact.Quiet.{is_range_lane, phi-virtual}
use Rattle.live_laws.proofs.Exact.Spots.{spot, drop-at}
use Rattle.place_solve.specs.Positions.{at_entry, entry_of, exit_of, takes_part}
use Rattle.place_solve.specs.Laws.{CopyLaw}
use Rattle.place_solve.specs.Told.{is_solved, around_of, IsPoint}

same_answer : {P : Type 0} (r s : Bool) → Decides r P → Decides s P → r ≡ s
same_answer true s h k = sym (k.1 (h.0 refl))
same_answer false true h k = h.1 (k.0 refl)
same_answer false false h k = refl

-- tests of one statement are one
pub same_tests : (P : ℕ → Type 0) (p q : ℕ → Bool) → Tests P p → Tests P q → p ≡ q
same_tests P p q h k = fun_ext (λ u. same_answer (p u) (q u) (h u) (k u))

-- where tests tell the units in use at a place, it admits a choice just where one serves by them
pub admitted : (t : Target) (f : Function) (p : Needs) (entry exit : ℕ → Bool) → UnitsOf t f p entry exit → (nat_lt 0 (length (solutions t entry exit p.variables)) ≡ true) ↔ Admits t f p
admitted t f p entry exit told = ((λ h. (entry, exit, told, h)), back)
  where
    back : Admits t f p → nat_lt 0 (length (solutions t entry exit p.variables)) ≡ true
    back a =
        let one : a.0 ≡ entry = same_tests (AtEntry t f p) a.0 entry a.2.0 told.0 in
        let two : a.1 ≡ exit = same_tests (AtExit t f p) a.1 exit a.2.1 told.1 in
        sym (ap (λ e. nat_lt 0 (length (solutions t e a.1 p.variables))) one ∙ ap (λ e. nat_lt 0 (length (solutions t entry e p.variables))) two) ∙ a.3

-- reserved lanes take no part
pub live-free : (R : Lane → Bool) (code p : Places) (l : Lane) → LivePlace R code p l → R l ≡ false
live-free R code p l (read m k e) = e
live-free R code p l (next o h g e) = e
live-free R code p l (leap m h g k e) = e
live-free R code p l (phi m n g k e) = e
live-free R code p l (store w o h g s e) = e
live-free R code p l (kept h g e) = e

-- an answer that counts for units that take part
pub takes-decides : {P : Type 0} (t : Target) (u : ℕ) (b : Bool) → (is_reserved_unit t u ≡ false → (b ≡ true) ↔ P) → (P → is_reserved_unit t u ≡ false) → (P → u < length t.units) → Decides (takes_part t u && b) P
takes-decides {P} t u b told free few = (go, back)
  where
    go : (takes_part t u && b) ≡ true → P
    go e = (told (plain (is_reserved_unit t u) (second_of_both (nat_lt u (length t.units)) (not (is_reserved_unit t u)) (first_of_both (takes_part t u) b e)))).0 (second_of_both (takes_part t u) b e)
      where
        plain : (r : Bool) → not r ≡ true → r ≡ false
        plain true h = absurd (cc)
        plain false h = refl

    all : (n r c : Bool) → n ≡ true → r ≡ false → c ≡ true → (n && not r && c) ≡ true
    all true false true e f g = refl
    all false r c e f g = absurd (cc)
    all true true c e f g = absurd (cc)
    all true false false e f g = absurd (cc)

    back : P → (takes_part t u && b) ≡ true
    back p = all (nat_lt u (length t.units)) (is_reserved_unit t u) b (lt-ltb u (length t.units) (few p)) (free p) ((told (free p)).1 p)

pub decides-takes : {P : Type 0} (t : Target) (u : ℕ) (b : Bool) → (u < length t.units → is_reserved_unit t u ≡ false → (b ≡ true) ↔ P) → (P → (u < length t.units) × (is_reserved_unit t u ≡ false)) → Decides (takes_part t u && b) P
decides-takes {P} t u b told takes = (go, back)
  where
    plain : (r : Bool) → not r ≡ true → r ≡ false
    plain true h = absurd (cc)
    plain false h = refl

    go : (takes_part t u && b) ≡ true → P
    go e =
        let p = first_of_both (takes_part t u) b e in
        (told (ltb-true u (length t.units) (first_of_both (nat_lt u (length t.units)) (not (is_reserved_unit t u)) p)) (plain (is_reserved_unit t u) (second_of_both (nat_lt u (length t.units)) (not (is_reserved_unit t u)) p))).0 (second_of_both (takes_part t u) b e)

    all : (n r c : Bool) → n ≡ true → r ≡ false → c ≡ true → (n && not r && c) ≡ true
    all true false true e f g = refl
    all false r c e f g = absurd (cc)
    all true true c e f g = absurd (cc)
    all true false false e f g = absurd (cc)

    back : P → (takes_part t u && b) ≡ true
    back p = let z = takes p in all (nat_lt u (length t.units)) (is_reserved_unit t u) b (lt-ltb u (length t.units) z.0) z.1 ((told z.0 z.1).1 p)

pub same_value : {X : Type 0} (x y : X) → Some x ≡ Some y → x ≡ y
same_value x y e = cc

false-test : (b : Bool) → Decides (b && false) ⊥
false-test true = ((λ e. absurd (cc)), (λ p. absurd p))
false-test false = ((λ e. absurd (cc)), (λ p. absurd p))

pub decides-as : {P Q : Type 0} (b : Bool) → (P → Q) → (Q → P) → Decides b P → Decides b Q
decides-as b to from d = ((λ e. to (d.0 e)), (λ q. d.1 (from q)))

-- the instructions of the block of a number stand in a block
pub instrs-in : (bs : List Block) (n : ℕ) (i : Instr) → Member i (instrs_of bs n) → (b : Block) × Member b bs × Member i b.instrs
instrs-in [] n i m = absurd (member-none i m)
instrs-in (b ∷ bs) n i m = go (nat_eq b.number n) m (instrs-in bs n i)
  where
    go : (q : Bool) → Member i (elim (cond q (Some b) (find (λ c. nat_eq c.number n) bs)) [ None ↦ [] | Some c ↦ c.instrs ]) → (Member i (instrs_of bs n) → (c : Block) × Member c bs × Member i c.instrs) → (c : Block) × Member c (b ∷ bs) × Member i c.instrs
    go true k ih = (b, first, k)
    go false k ih = let z = ih k in (z.0, later z.1, z.2)

phi-effect : (t : Target) (i : Instr) → does is_phi t i ≡ true → effect_of t i ≡ Some effects.Phi
phi-effect t i h = go (effect_of t i) refl h
  where
    by : (e : Effect) → is_phi e ≡ true → Some e ≡ Some effects.Phi
    by effects.Phi g = refl
    by e g = absurd (cc)

    go : (q : Option Effect) → effect_of t i ≡ q → passes is_phi q ≡ true → effect_of t i ≡ Some effects.Phi
    go None e g = absurd (cc)
    go (Some k) e g = e ∙ by k g

-- lanes of virtual registers aren't reserved
range-free : (t : Target) (l : Lane) → is_range_lane l ≡ true → is_reserved t l ≡ false
range-free t (VirtualLane v k) e = refl
range-free t (UnitLane u) e = absurd (cc)
range-free t (SlotLane s k w) e = absurd (cc)

module _ (t : Target) (f : Function) (rules : KeepsRules t f) where
  abbrev R : Lane → Bool
  R = is_reserved t

  -- what phis read isn't reserved
  phis-free : (m n : ℕ) (w : Write) (l : Lane) → Member w (phis_written t f m (instrs_of f.blocks n)) → w.fill ≡ Moved (FromLane l) → R l ≡ false
  phis-free m n w l k e =
      let z = written-of t f m w (instrs_of f.blocks n) k in
      let i = z.0 in
      let b = instrs-in f.blocks n i z.1 in
      let p = phi-write t f m i w z.2 in
      let lane = use-lane t f p.1.1 l (phi-source t f m i.operands w l p.1 e) in
      range-free t l (phi-virtual t f i p.1.1 m l (phi-effect t i p.0) (rules.shaped b.0 i b.1 b.2).operands p.1.3 lane)

  module _ (b : Block) where
    -- paths leave a block by the ways out of it
    edge-out : (i : Instr) (e : Edge) → Member e (edges_of (point_item t f b i)) → Member e (ways_out t f b)
    unfolding point_item item_of
    edge-out i e = go (does is_phi t i)
      where
        out : (q : Bool) → Member e (cond q (ways_out t f b) []) → Member e (ways_out t f b)
        out true m = m
        out false m = absurd (member-none e m)

        by : (k : Effect) → Member e (edges_of (effect_item t f b i k)) → Member e (ways_out t f b)
        by k = silent (is_silent k)
          where
            silent : (s : Bool) → Member e (edges_of (cond s (Silent (silent_reads t f k i.operands) (silent_writes t f k (is_early_clobber (roles_of t i)) i.operands)) (Counted (rest_of t f k i) (map (λ v. v.0) (values t f k i)) (counted_writes t f k i) (option_map (way t f b.number) (target_of i.operands)) (cond (is_terminator k) (ways_out t f b) [])))) → Member e (ways_out t f b)
            silent true m = absurd (member-none e m)
            silent false m = out (is_terminator k) m

        item : (q : Option Effect) → Member e (edges_of (elim q [ None ↦ Silent [] [] | Some k ↦ effect_item t f b i k ])) → Member e (ways_out t f b)
        item None m = absurd (member-none e m)
        item (Some k) m = by k m

        go : (q : Bool) → Member e (edges_of (cond q (Silent [] (defined_undef t f i.operands)) (elim (effect_of t i) [ None ↦ Silent [] [] | Some k ↦ effect_item t f b i k ]))) → Member e (ways_out t f b)
        go true m = absurd (member-none e m)
        go false m = item (effect_of t i) m

    ways-free : (e : Edge) (w : Write) (l : Lane) → Member e (ways_out t f b) → Member w e.phis → w.fill ≡ Moved (FromLane l) → R l ≡ false
    ways-free e w l m k h =
        let z = map-of (λ g. way t f b.number g.block) e b.successors m in
        phis-free b.number z.0.block w l (subst (λ (d : Edge). Member w d.phis) z.2 k) h

    -- what is live behind an instruction isn't reserved
    after-free : (i : Instr) (p : Places) (l : Lane) → LiveAfter R (points_of t f) (point_item t f b i) p l → R l ≡ false
    after-free i p l (after_next o h) = live-free R (points_of t f) p l h
    after-free i p l (after_leap {e = e} {a = a} m h g) = go (filled-cases e.phis a)
      where
        go : ((w : Write) × Member w e.phis × (w.lane ≡ a) × (filled e.phis a ≡ w.fill)) ⊎ ((filled e.phis a ≡ Moved (FromLane a)) × ((w : Write) → Member w e.phis → w.lane ≡ a → ⊥)) → R l ≡ false
        go (inl z) = ways-free e z.0 l (edge-out i e m) z.1 (sym z.3 ∙ g)
        go (inr z) = ap R (moved-same l a (sym g ∙ z.0)) ∙ live-free R (points_of t f) (found e.block (points_of t f)) a h
    after-free i p l (after_phi {e = e} {w = w} m k g) = ways-free e w l (edge-out i e m) k g

  pub free-at : (q : Point) → IsPoint t f q → (u : ℕ) → LiveAt t f q (UnitLane u) → is_reserved_unit t u ≡ false
  free-at (Start n) s u h = live-free R (points_of t f) _ (UnitLane u) h
  free-at (Entry id) s u h = live-free R (points_of t f) _ (UnitLane u) h
  free-at (Exit id) (k, j, e) u h =
      let s = spot t f id f.blocks k j e in
      let rest : from_instr t f id f.blocks ≡ point_item t f s.block s.instr ∷ (map (point_item t f s.block) (drop (suc j) s.block.instrs) ++ (block_end t f s.block s.after ∷ blocks_code (point_item t f) t f s.after)) =
      s.code ∙ ap (λ is. map (point_item t f s.block) is ++ (block_end t f s.block s.after ∷ blocks_code (point_item t f) t f s.after)) (drop-at s.block.instrs j s.instr s.there).0 in
      after-free s.block s.instr _ (UnitLane u) (subst (AtFirst (λ i p. LiveAfter R (points_of t f) i p (UnitLane u))) rest h)

module _ (t : Target) (f : Function) (x : Table) (computed : IsComputed t f x) (rules : KeepsRules t f) (last : (b : Block) (j : ℕ) (i : Instr) → Member b f.blocks → slice_get b.instrs j ≡ Some i → V8 t b j i ≡ true) where
  pub tells : TellsInside t f x
  tells = inside-law t f x computed rules last

  at-copy : (q : Point) → IsPoint t f q → (u : ℕ) → is_reserved_unit t u ≡ false → (at_entry t x (around_of q) (unit_number u) ≡ true) ↔ LiveAt t f q (UnitLane u)
  at-copy (Start n) (k, b, e, s) u r = subst (λ m. (at_entry t x (around_of (Start m)) (unit_number u) ≡ true) ↔ LiveAt t f (Start m) (UnitLane u)) s (computed-law t f x computed rules last (UnitLane u) refl k b e)
  at-copy (Entry id) (k, j, e) u r = tells.entry (UnitLane u) refl id k j e
  at-copy (Exit id) (k, j, e) u r = tells.exit (UnitLane u) refl r id k j e

  pub numbered : IsNumbered t f (number_in x.lanes)
  numbered = table-law t f x.lanes computed.numbers rules

  -- a unit with a number is one of the target
  long : {X : Type 0} (g : ℕ → X) (n k : ℕ) → length (map g (numbers n k)) ≡ k
  long g n zero = refl
  long g n (suc k) = ap (λ m. suc m) (long g (suc n) k)

  pub few-numbered : (u : ℕ) → ((n : ℕ) × (number_in x.lanes (owners.Unit u) ≡ Some n)) → u < length t.units
  few-numbered u (n, e) =
      let l : length x.lanes.reserved.items ≡ length t.units = ap length computed.numbers.reserved ∙ long (is_reserved_unit t) 0 (length t.units) in
      go (slice_get x.lanes.reserved.items u) refl e l
    where
      go : (q : Option Bool) → slice_get x.lanes.reserved.items u ≡ q → elim q [ None ↦ None | Some b ↦ cond b None (Some u) ] ≡ Some n → length x.lanes.reserved.items ≡ length t.units → u < length t.units
      go None g h l = absurd (cc)
      go (Some b) g h l = let w = slice_get_within x.lanes.reserved.items u b g in omega (arith, w, l)

  pub marks-few : (u : ℕ) (test : Option ℕ → Bool) → test None ≡ false → test (number_in x.lanes (owners.Unit u)) ≡ true → u < length t.units
  marks-few u test none e = go (number_in x.lanes (owners.Unit u)) refl e
    where
      go : (q : Option ℕ) → number_in x.lanes (owners.Unit u) ≡ q → test q ≡ true → u < length t.units
      go None g h = absurd (let k : false ≡ true = sym none ∙ h in cc)
      go (Some n) g h = few-numbered u (n, g)

  few-at : (q : Point) → IsPoint t f q → (u : ℕ) → LiveAt t f q (UnitLane u) → u < length t.units
  few-at q s u h = go q ((at-copy q s u (free-at t f rules q s u h)).1 h)
    where
      go : (q : Point) → at_entry t x (around_of q) (unit_number u) ≡ true → u < length t.units
      go (Start n) e = marks-few u (λ o. marked_at x.rows.rows.items o (get nat_cmp x.order.positions n)) refl e
      go (Entry id) e = marks-few u (λ o. entry_at x o id) refl e
      go (Exit id) e = marks-few u (λ o. exit_at x o id) refl e

  copy-entry : (vs : List Need) (q : Point) → IsPoint t f q → Tests (AtEntry t f (copy_place vs q)) (entry_of t x (around_of q))
  copy-entry vs q s u =
      decides-as (entry_of t x (around_of q) u) (λ h. inr (q, first, h)) back
      (takes-decides t u (at_entry t x (around_of q) (unit_number u)) (λ r. at-copy q s u r) (free-at t f rules q s u) (λ h. few-at q s u h))
    where
      back : AtEntry t f (copy_place vs q) u → LiveAt t f q (UnitLane u)
      back (inl (p, m, h)) = absurd (member-none p m)
      back (inr (p, m, h)) = member-elim p q [] (λ e. subst (λ z. LiveAt t f z (UnitLane u)) e h) (λ k. absurd (member-none p k)) m

  copy-exit : (vs : List Need) (q : Point) → Tests (AtExit t f (copy_place vs q)) (exit_of t x (around_of q))
  copy-exit vs q u = decides-as (exit_of t x (around_of q) u) (λ n. absurd n) (λ z. member-none z.0 z.1) (by q)
    where
      by : (q : Point) → Decides (exit_of t x (around_of q) u) ⊥
      by (Start n) = false-test (takes_part t u)
      by (Entry id) = false-test (takes_part t u)
      by (Exit id) = false-test (takes_part t u)

  pub copy-told : (vs : List Need) (q : Point) → IsPoint t f q → (is_solved t x (around_of q) vs ≡ true) ↔ Admits t f (copy_place vs q)
  copy-told vs q s = admitted t f (copy_place vs q) (entry_of t x (around_of q)) (exit_of t x (around_of q)) (copy-entry vs q s, copy-exit vs q)

pub copy-law : CopyLaw
copy-law t f x computed rules last vs q s = copy-told t f x computed rules last vs q s
