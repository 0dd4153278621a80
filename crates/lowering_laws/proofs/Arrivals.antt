-- The copies into incoming registers at the end of a block: which of them gives a register its value.
use Rattle.std.proofs.Common.{◌≡◌, ◌∷◌, ◌++◌, ◌∙◌, ◌||◌, not, ◌+◌, ◌≤◌, ◌<◌, ℕ, suc, Bool, true, false, cond, List, Option, Some, map, filter, flat_map, length, drop, refl, sym, ap, subst, append_assoc, append-nil, length-append, eqb-true, eq-eqb, arith, []}
use Rattle.std.specs.Prelude.{nat_eq, nat_lt, slice_get, ◌==◌}
use Rattle.std.specs.List.{list_any}
use Rattle.std.proofs.lemmas.Bool.{ltb-true}
use Rattle.std.proofs.lemmas.List.Sums.{sum_by-cons}
use Rattle.target_base.specs.declared.types.ClassId.{ClassId}
use Rattle.target_base.specs.declared.types.Target.{Target}
use Rattle.target_base.specs.Names.{are_distinct_numbers}
use Rattle.target_base.specs.Rules.{is_phi}
use Rattle.target_base.proofs.Tests.{first_of_both, second_of_both}
use Rattle.meaning.specs.Lanes.{Writes, settled, through}
use Rattle.meaning.specs.Live.{Among, here, there}
use Rattle.meaning.specs.declared.types.Lane.{Lane}
use Rattle.meaning.specs.declared.types.Lane.TheVariants.{SlotLane, UnitLane, VirtualLane}
use Rattle.meaning.specs.declared.types.Source.{Source}
use Rattle.meaning.specs.declared.types.Source.TheVariants.{Bits, FromLane, Undef}
use Rattle.mir_func.specs.declared.func.RegOp.{RegOp}
use Rattle.mir_func.specs.declared.func.Operand.{Operand}
use Rattle.mir_func.specs.declared.func.Operand.TheVariants as operands
use Rattle.mir_func.specs.declared.func.Instr.{Instr}
use Rattle.mir_func.specs.declared.func.Block.{Block}
use Rattle.mir_func.specs.Value.{Function}
use Rattle.mir_func.specs.Edits.{block_place}
use Rattle.mir_func.specs.Binding.{does, registers}
use Rattle.mir_meaning.specs.Registers.{has_number, numbers, range_widths, use_sources}
use Rattle.mir_meaning.specs.Items.{copied, defined, defined_undef, moved, undefined}
use Rattle.mir_meaning.specs.Codes.{phi_pair}
use Rattle.mir_meaning.specs.Rules.{block_of, is_virtual_use, phi_pairs}
use Rattle.phi_elim.specs.declared.arrivals.Arrival.{Arrival}
use Rattle.phi_elim.specs.Moves.{source_of, whole_definition}
use Rattle.phi_elim.specs.Phis.{arrival, arrivals_in, arrivals_of, incoming_class, instr_arrivals, phi_count, phi_number, result_class}
use Rattle.lowering_laws.proofs.Olds.{is_old, old_source}
use Rattle.lowering_laws.proofs.Traced.{filled-free, is_lane_of, is_written, lanes_by, moved-apart, traced, traced-append, undefined-apart, written-append}

pub eqb-sym : (a b : ℕ) → nat_eq a b ≡ nat_eq b a
eqb-sym a b = go (nat_eq a b) (nat_eq b a) refl refl
  where
    go : (x y : Bool) → nat_eq a b ≡ x → nat_eq b a ≡ y → nat_eq a b ≡ nat_eq b a
    go true true e h = e ∙ sym h
    go false false e h = e ∙ sym h
    go true false e h = absurd (let q : nat_eq b a ≡ true = eq-eqb b a (sym (eqb-true a b e)) in cc)
    go false true e h = absurd (let q : nat_eq a b ≡ true = eq-eqb a b (sym (eqb-true b a h)) in cc)

pub at-least : (a b : ℕ) → b ≤ a → nat_lt a b ≡ false
at-least a b h = go (nat_lt a b) refl
  where
    go : (x : Bool) → nat_lt a b ≡ x → nat_lt a b ≡ false
    go false e = e
    go true e = absurd (let q = ltb-true a b e in omega arith)

pub differ : (a b : ℕ) → a < b → nat_eq b a ≡ false
differ a b h = go (nat_eq b a) refl
  where
    go : (x : Bool) → nat_eq b a ≡ x → nat_eq b a ≡ false
    go false e = e
    go true e = absurd (let q : b ≡ a = eqb-true b a e in omega (arith, q))

-- the place of a block's number, and of no other
pub record IsPlace (bs : List Block) (n x : ℕ) : Type 0 where
  pub at : block_place n bs ≡ x
  pub only : (m : ℕ) → nat_eq m n ≡ false → nat_eq (block_place m bs) x ≡ false

-- registers from number c on
abbrev pub ToFrom : ℕ → List Arrival → Type 0
ToFrom c [] = Unit {0}
ToFrom c (a ∷ arrs) = (c ≤ a.to) × ToFrom c arrs

to-append : (c : ℕ) (xs ys : List Arrival) → ToFrom c xs → ToFrom c ys → ToFrom c (xs ++ ys)
to-append c [] ys h g = g
to-append c (a ∷ xs) ys h g = (h.0, to-append c xs ys h.1 g)

to-less : (b c : ℕ) (xs : List Arrival) → b ≤ c → ToFrom c xs → ToFrom b xs
to-less b c [] l h = tt
to-less b c (a ∷ xs) l h = (let q = h.0 in omega arith, to-less b c xs l h.1)

to-arrival : (bs : List Block) (c : ℕ) (a b : Operand) → ToFrom c (arrival bs c a b)
to-arrival bs c (operands.Reg s) (operands.Block n) = (omega arith, tt)
to-arrival bs c a b = tt

to-arrivals : (bs : List Block) (c : ℕ) (os : List Operand) → ToFrom c (arrivals_of bs c os)
to-arrivals bs c [] = tt
to-arrivals bs c (a ∷ []) = tt
to-arrivals bs c (a ∷ b ∷ os) = to-append c (arrival bs c a b) (arrivals_of bs c os) (to-arrival bs c a b) (to-arrivals bs c os)

module _ (t : Target) (bs : List Block) where
  to-instr : (c : ℕ) (i : Instr) → ToFrom c (instr_arrivals t bs c i)
  to-instr c i = go (does is_phi t i)
    where
      go : (b : Bool) → ToFrom c (cond b (arrivals_of bs c (drop 1 i.operands)) [])
      go true = to-arrivals bs c (drop 1 i.operands)
      go false = tt

  pub to-all : (c : ℕ) (is : List Instr) → ToFrom c (arrivals_in t bs c is)
  to-all c [] = tt
  to-all c (i ∷ is) = to-append c (instr_arrivals t bs c i) (arrivals_in t bs (c + phi_number t i) is) (to-instr c i) (to-less c (c + phi_number t i) (arrivals_in t bs (c + phi_number t i) is) (omega arith) (to-all (c + phi_number t i) is))

module _ (t : Target) (h : Function) where
  -- what the copy into an incoming register writes
  abbrev pub arrival_writes : Arrival → Writes
  arrival_writes a = cond a.from.undef (defined_undef t h (operands.Reg (whole_definition a.to) ∷ [])) (copied t h (operands.Reg (whole_definition a.to) ∷ operands.Reg (source_of a.from) ∷ []))

  -- those of the copies at the end of the block at a place
  abbrev pub writes_at : ℕ → List Arrival → List Writes
  writes_at x arrs = map arrival_writes (filter (λ a. a.block == x) arrs)

  pub writes-append : (x : ℕ) (xs ys : List Arrival) → writes_at x (xs ++ ys) ≡ writes_at x xs ++ writes_at x ys
  writes-append x [] ys = refl
  writes-append x (a ∷ xs) ys = go (a.block == x) (writes-append x xs ys)
    where
      go : (b : Bool) → writes_at x (xs ++ ys) ≡ writes_at x xs ++ writes_at x ys → map arrival_writes (cond b (a ∷ filter (λ y. y.block == x) (xs ++ ys)) (filter (λ y. y.block == x) (xs ++ ys))) ≡ map arrival_writes (cond b (a ∷ filter (λ y. y.block == x) xs) (filter (λ y. y.block == x) xs)) ++ writes_at x ys
      go true e = ap (λ ws. arrival_writes a ∷ ws) e
      go false e = e

  -- it leaves the lanes of other registers
  other-register : (a : Arrival) (l : Lane) → is_lane_of a.to l ≡ false → is_written (arrival_writes a) l ≡ false
  other-register a l e = go a.from.undef
    where
      ns : List ℕ
      ns = numbers 0 (length (range_widths t h a.to))

      ss : List Source
      ss = use_sources t h (source_of a.from)

      go : (b : Bool) → is_written (cond b (defined_undef t h (operands.Reg (whole_definition a.to) ∷ [])) (copied t h (operands.Reg (whole_definition a.to) ∷ operands.Reg (source_of a.from) ∷ []))) l ≡ false
      go true = subst (λ ls. is_written (undefined false ls) l ≡ false) (sym (append-nil (lanes_by a.to ns))) (undefined-apart a.to ns l e)
      go false = written-append (moved false (lanes_by a.to ns) ss) [] l (moved-apart a.to ns ss l e) refl

  pub left-alone : (a : Arrival) (l : Lane) → is_lane_of a.to l ≡ false → settled (through (arrival_writes a) (FromLane l)) ≡ FromLane l
  left-alone a l e = ap settled (filled-free (arrival_writes a) l (other-register a l e))

  -- a lane of a register below them
  pub below-all : (x c k : ℕ) (arrs : List Arrival) → ToFrom (suc c) arrs → traced (writes_at x arrs) (FromLane (VirtualLane c k)) ≡ FromLane (VirtualLane c k)
  below-all x c k [] f = refl
  below-all x c k (a ∷ arrs) f = go (a.block == x) (below-all x c k arrs f.1)
    where
      go : (b : Bool) → traced (writes_at x arrs) (FromLane (VirtualLane c k)) ≡ FromLane (VirtualLane c k) → traced (map arrival_writes (cond b (a ∷ filter (λ y. y.block == x) arrs) (filter (λ y. y.block == x) arrs))) (FromLane (VirtualLane c k)) ≡ FromLane (VirtualLane c k)
      go true e = ap (λ q. settled (through (arrival_writes a) q)) e ∙ left-alone a (VirtualLane c k) (differ c a.to f.0)
      go false e = e

  module _ (bound : ℕ) where
    old-apart : (c : ℕ) (l : Lane) → bound ≤ c → is_old bound l ≡ true → is_lane_of c l ≡ false
    old-apart c (UnitLane u) g e = refl
    old-apart c (SlotLane s k w) g e = refl
    old-apart c (VirtualLane w k) g e = let q = ltb-true w bound e in differ w c (omega arith)

    kept-old : (a : Arrival) (s : Source) → bound ≤ a.to → old_source bound s ≡ true → settled (through (arrival_writes a) s) ≡ s
    kept-old a (FromLane l) g e = left-alone a l (old-apart a.to l g e)
    kept-old a Undef g e = refl
    kept-old a (Bits c low width) g e = refl

    -- an old source stays
    pub all-kept : (x : ℕ) (arrs : List Arrival) (s : Source) → ToFrom bound arrs → old_source bound s ≡ true → traced (writes_at x arrs) s ≡ s
    all-kept x [] s f e = refl
    all-kept x (a ∷ arrs) s f e = go (a.block == x) (all-kept x arrs s f.1 e)
      where
        go : (b : Bool) → traced (writes_at x arrs) s ≡ s → traced (map arrival_writes (cond b (a ∷ filter (λ y. y.block == x) arrs) (filter (λ y. y.block == x) arrs))) s ≡ s
        go true q = ap (λ z. settled (through (arrival_writes a) z)) q ∙ kept-old a s f.0 e
        go false q = q

-- the instruction stands among these, its incoming register being number ci where the first one's is c
pub data PhiAt (t : Target) (ci : ℕ) (p : Instr) : ℕ → List Instr → Type 0 where
  first : {is : List Instr} → PhiAt t ci p ci (p ∷ is)
  later : {c : ℕ} {j : Instr} {is : List Instr} → PhiAt t ci p (c + phi_number t j) is → PhiAt t ci p c (j ∷ is)

module _ (t : Target) (ci : ℕ) (p : Instr) where
  pub at-left : {c : ℕ} {is : List Instr} (js : List Instr) → PhiAt t ci p c is → PhiAt t ci p c (is ++ js)
  at-left js first = first
  at-left js (later a) = later (at-left js a)

  pub at-right : (c : ℕ) (is js : List Instr) → PhiAt t ci p (c + phi_count t is) js → PhiAt t ci p c (is ++ js)
  at-right c [] js a = subst (λ n. PhiAt t ci p n js) (let z : c + 0 ≡ c = omega arith in z) a
  at-right c (i ∷ is) js a =
      let e : c + phi_count t (i ∷ is) ≡ c + phi_number t i + phi_count t is = omega (arith, sum_by-cons (phi_number t) i is) in
      later (at-right (c + phi_number t i) is js (subst (λ n. PhiAt t ci p n js) e a))

  pub at-least-first : {c : ℕ} {is : List Instr} → PhiAt t ci p c is → c ≤ ci
  at-least-first first = omega arith
  at-least-first (later {c = c} {j = j} a) = let q = at-least-first a in omega arith

  module _ (bs : List Block) (h : Function) (bound x k : ℕ) (s : Source) (phi : does is_phi t p ≡ true) (old : old_source bound s ≡ true) (own : traced (writes_at t h x (arrivals_of bs ci (drop 1 p.operands))) (FromLane (VirtualLane ci k)) ≡ s) where
    -- the register's own copy gives it its value
    pub in-all : {c : ℕ} {is : List Instr} → PhiAt t ci p c is → bound ≤ c → traced (writes_at t h x (arrivals_in t bs c is)) (FromLane (VirtualLane ci k)) ≡ s
    in-all (first {is = is}) g =
        let mine = instr_arrivals t bs ci p in
        let rest = arrivals_in t bs (ci + phi_number t p) is in
        let after : ToFrom (suc ci) rest = to-less (suc ci) (ci + phi_number t p) rest (let one : phi_number t p ≡ 1 = λ i. cond (phi i) 1 0 in omega (arith, one)) (to-all t bs (ci + phi_number t p) is) in
        ap (λ ws. traced ws (FromLane (VirtualLane ci k))) (writes-append t h x mine rest)
        ∙ (traced-append (writes_at t h x mine) (writes_at t h x rest) (FromLane (VirtualLane ci k))
        ∙ (ap (traced (writes_at t h x mine)) (below-all t h x ci k rest after)
        ∙ (ap (λ arrs. traced (writes_at t h x arrs) (FromLane (VirtualLane ci k))) (λ i. cond (phi i) (arrivals_of bs ci (drop 1 p.operands)) []) ∙ own)))
    in-all (later {c = c} {j = j} {is = is} a) g =
        let mine = instr_arrivals t bs c j in
        let rest = arrivals_in t bs (c + phi_number t j) is in
        ap (λ ws. traced ws (FromLane (VirtualLane ci k))) (writes-append t h x mine rest)
        ∙ (traced-append (writes_at t h x mine) (writes_at t h x rest) (FromLane (VirtualLane ci k))
        ∙ (ap (traced (writes_at t h x mine)) (in-all a (omega arith))
        ∙ all-kept t h bound x mine s (to-less bound c mine g (to-instr t bs c j)) old))

  -- the class of its incoming register

  get-behind : (cs : List (Option ClassId)) (y : Option ClassId) (rest : List (Option ClassId)) → slice_get (cs ++ y ∷ rest) (length cs) ≡ Some y
  get-behind [] y rest = refl
  get-behind (c ∷ cs) y rest = get-behind cs y rest

  pub incoming-at : (all cs : List (Option ClassId)) {c : ℕ} {is : List Instr} → does is_phi t p ≡ true → PhiAt t ci p c is → length cs ≡ c → slice_get (cs ++ flat_map (incoming_class t all) is) ci ≡ Some (result_class all p.operands)
  incoming-at all cs phi (first {is = is}) e =
      subst (λ n. slice_get (cs ++ (incoming_class t all p ++ flat_map (incoming_class t all) is)) n ≡ Some (result_class all p.operands)) e
      (ap (λ b. slice_get (cs ++ (cond b (result_class all p.operands ∷ []) [] ++ flat_map (incoming_class t all) is)) (length cs)) phi ∙ get-behind cs (result_class all p.operands) (flat_map (incoming_class t all) is))
  incoming-at all cs phi (later {c = c} {j = j} {is = is} a) e =
      ap (λ xs. slice_get xs ci) (sym (append_assoc cs (incoming_class t all j) (flat_map (incoming_class t all) is)))
      ∙ incoming-at all (cs ++ incoming_class t all j) phi a (length-append cs (incoming_class t all j) ∙ (λ i. e i + one (does is_phi t j) i))
    where
      one : (b : Bool) → length (cond b (result_class all j.operands ∷ []) []) ≡ cond b 1 0
      one true = refl
      one false = refl

-- the pair of a phi that names a block

module _ (t : Target) (h : Function) (bs : List Block) (n x c : ℕ) (place : IsPlace bs n x) (d : RegOp) where
  -- operand s is given on the way from block n, and its copy is the one at that block's end
  pub record Arrived (os : List Operand) : Type 0 where
    pub s : RegOp
    pub among : Among s (registers os)
    pub pair : phi_pair t h n d os ≡ defined t h false d (use_sources t h s)
    pub arrivals : filter (λ a. a.block == x) (arrivals_of bs c os) ≡ record { block = x; to = c; from = s } ∷ []

  none-there : (os : List Operand) → phi_pairs os ≡ true → list_any (λ k. n == k) (flat_map block_of os) ≡ false → filter (λ a. a.block == x) (arrivals_of bs c os) ≡ []
  none-there [] p e = refl
  none-there (operands.Reg s ∷ operands.Block m ∷ os) p e =
      let z = neither (n == m) (list_any (λ k. n == k) (flat_map block_of os)) e in
      (λ i. cond (place.only m (eqb-sym m n ∙ z.0) i) (record { block = block_place m bs; to = c; from = s } ∷ filter (λ a. a.block == x) (arrivals_of bs c os)) (filter (λ a. a.block == x) (arrivals_of bs c os)))
      ∙ none-there os (second_of_both (is_virtual_use s) (phi_pairs os) p) z.1
    where
      neither : (a b : Bool) → (a || b) ≡ false → (a ≡ false) × (b ≡ false)
      neither true b e = absurd (cc)
      neither false b e = (refl, e)
  none-there os p e = absurd (cc)

  pub arrived : (os : List Operand) → phi_pairs os ≡ true → are_distinct_numbers (flat_map block_of os) ≡ true → has_number (flat_map block_of os) n ≡ true → Arrived os
  arrived [] p u e = absurd (cc)
  arrived (operands.Reg s ∷ operands.Block m ∷ os) p u e = go (nat_eq m n) refl (λ q. arrived os (second_of_both (is_virtual_use s) (phi_pairs os) p) (second_of_both (not (list_any (λ k. m == k) (flat_map block_of os))) (are_distinct_numbers (flat_map block_of os)) u) q)
    where
      rest : List Arrival
      rest = filter (λ a. a.block == x) (arrivals_of bs c os)

      mine : Arrival
      mine = record { block = block_place m bs; to = c; from = s }

      unlike : not (list_any (λ k. m == k) (flat_map block_of os)) ≡ true
      unlike = first_of_both (not (list_any (λ k. m == k) (flat_map block_of os))) (are_distinct_numbers (flat_map block_of os)) u

      not-true : (b : Bool) → not b ≡ true → b ≡ false
      not-true true e = absurd (cc)
      not-true false e = refl

      past : (a b : Bool) → a ≡ false → (a || b) ≡ true → b ≡ true
      past true b e h = absurd (cc)
      past false b e h = h

      go : (b : Bool) → nat_eq m n ≡ b → (has_number (flat_map block_of os) n ≡ true → Arrived os) → Arrived (operands.Reg s ∷ operands.Block m ∷ os)
      go true q ih =
          let same = eqb-true m n q in
          let at : block_place m bs ≡ x = ap (λ z. block_place z bs) same ∙ place.at in
          let none : rest ≡ [] = none-there os (second_of_both (is_virtual_use s) (phi_pairs os) p) (ap (λ z. list_any (λ k. z == k) (flat_map block_of os)) (sym same) ∙ not-true (list_any (λ k. m == k) (flat_map block_of os)) unlike) in
          record {
            s = s;
            among = here;
            pair = λ i. cond (q i) (defined t h false d (use_sources t h s)) (phi_pair t h n d os);
            arrivals = (λ i. cond (eq-eqb (block_place m bs) x at i) (mine ∷ rest) rest) ∙ (λ i. record { block = at i; to = c; from = s } ∷ none i);
          }
      go false q ih =
          let z = ih (past (nat_eq n m) (has_number (flat_map block_of os) n) (eqb-sym n m ∙ q) e) in
          record {
            s = z.s;
            among = there z.among;
            pair = (λ i. cond (q i) (defined t h false d (use_sources t h s)) (phi_pair t h n d os)) ∙ z.pair;
            arrivals = (λ i. cond (place.only m q i) (mine ∷ rest) rest) ∙ z.arrivals;
          }
  arrived os p u e = absurd (cc)
