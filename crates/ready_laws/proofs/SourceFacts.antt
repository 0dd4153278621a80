-- What phi elimination rests on, of a valid source: where blocks, phis and terminators stand. (As in `Sources` of lowering_laws,
-- which keeps these lemmas private.)
use Rattle.std.proofs.Common.{◌≡◌, ◌⊎◌, inl, inr, ◌∷◌, ◌++◌, ◌∙◌, ◌&&◌, ◌||◌, ◌+◌, not, ℕ, zero, suc, Bool, true, false, cond, List, Some, None, length, drop, take, refl, sym, ap, subst, append_assoc, length-append, eqb-true, eq-eqb, arith, one-add, []}
use Rattle.std.specs.Prelude.{find, nat_eq, slice_get}
use Rattle.std.specs.List.{list_all, list_any}
use Rattle.target_base.specs.declared.types.Target.{Target}
use Rattle.target_base.specs.Rules.{is_phi}
use Rattle.target_base.proofs.Tests.{second_of_both}
use Rattle.meaning.specs.Lanes.{Writes}
use Rattle.meaning.specs.Live.{Among, here, there}
use Rattle.mir_func.specs.declared.func.Edge.{Edge as Successor}
use Rattle.mir_func.specs.declared.func.Operand.{Operand}
use Rattle.mir_func.specs.declared.func.Operand.TheVariants as operands
use Rattle.mir_func.specs.declared.func.Instr.{Instr}
use Rattle.mir_func.specs.declared.func.Block.{Block}
use Rattle.mir_func.specs.Value.{Function}
use Rattle.mir_func.specs.Edits.{block_place}
use Rattle.mir_func.specs.Binding.{does, is_terminator, passes}
use Rattle.mir_meaning.specs.Registers.{has_number}
use Rattle.mir_meaning.specs.Codes.{instrs_of}
use Rattle.mir_meaning.specs.Rules.{V7, V8, block_numbers, is_virtual_use, lists_once, named_blocks, phi_pairs, phi_stands, predecessors, successors_of}
use Rattle.phi_elim.specs.declared.arrivals.Arrival.{Arrival}
use Rattle.phi_elim.specs.Phis.{all_instrs, arrivals_in, arrivals_of, instr_arrivals, phi_count, phi_number}
use Rattle.instr_effects.proofs.Members.{flat-of, left-in, map-in, right-in}
use Rattle.live_laws.proofs.Effects.Blocks.{member-slice, number-in, numbers-apart, slice-member}
use Rattle.live_laws.proofs.Effects.Lists.{all-of, any-in}
use Rattle.live_laws.proofs.Effects.Moved.{Apart}
use Rattle.live_laws.proofs.Effects.Moving.{some-same}
use Rattle.lowering_laws.proofs.Alike.{Behind}
use Rattle.lowering_laws.proofs.Arrivals.{IsPlace, PhiAt, differ, eqb-sym}
use Rattle.lowering_laws.proofs.Blocks.{BlockFacts, Facts, FirstBare, FromRanges}
use Rattle.lowering_laws.proofs.Ends.{ends-free, falls-followed, names-none, no-branch, target-followed}
use Rattle.lowering_laws.proofs.Lowering.{AreEnds, IsEnd, NoPhis, Shape, WayOn, arrs, bound, counter, ending, ends, h, none, other, phi}
use Rattle.lowering_laws.proofs.Operands.{PhiShape, all-named, known-effect, named, pair-virtual, phi-shape}
use Rattle.lowering_laws.proofs.PhisOn.{build, embed, found-or}
use Rattle.lowering_laws.proofs.Ruled.{AllRules, EachRules, PlacedRules, all-rules, each-rules}
use Rattle.lowering_laws.proofs.Ways.{PhisOn, done}

first-of-three : (a b c : Bool) → (a && b && c) ≡ true → a ≡ true
first-of-three true b c h = refl
first-of-three false b c h = absurd (cc)

second-of-three : (a b c : Bool) → (a && b && c) ≡ true → b ≡ true
second-of-three true true c h = refl
second-of-three true false c h = absurd (cc)
second-of-three false b c h = absurd (cc)

-- lists by what stands before

at-length : {X : Type 0} (pre : List X) (x : X) (after : List X) → slice_get (pre ++ x ∷ after) (length pre) ≡ Some x
at-length [] x after = refl
at-length (y ∷ pre) x after = at-length pre x after

past-length : {X : Type 0} (pre : List X) (x : X) (after : List X) → drop (suc (length pre)) (pre ++ x ∷ after) ≡ after
past-length [] x after = refl
past-length (y ∷ pre) x after = past-length pre x after

take-length : {X : Type 0} (pre rest : List X) → take (length pre) (pre ++ rest) ≡ pre
take-length [] rest = refl
take-length (y ∷ pre) rest = ap (λ xs. y ∷ xs) (take-length pre rest)

-- the place of a block's number

apart-suc : (a b : ℕ) → nat_eq a b ≡ false → nat_eq (1 + a) (suc b) ≡ false
apart-suc a b e = go (nat_eq (1 + a) (suc b)) refl
  where
    go : (y : Bool) → nat_eq (1 + a) (suc b) ≡ y → nat_eq (1 + a) (suc b) ≡ false
    go false g = g
    go true g = absurd (let q : 1 + a ≡ suc b = eqb-true (1 + a) (suc b) g in let same : a ≡ b = omega (arith, q) in let h : nat_eq a b ≡ true = eq-eqb a b same in cc)

other-number : (c : Block) (bs : List Block) (n : ℕ) → (Among c.number (block_numbers bs) → ⊥) → Among n (block_numbers bs) → nat_eq c.number n ≡ false
other-number c bs n apart m = go (nat_eq c.number n) refl
  where
    go : (y : Bool) → nat_eq c.number n ≡ y → nat_eq c.number n ≡ false
    go false e = e
    go true e = absurd (apart (subst (λ q. Among q (block_numbers bs)) (sym (eqb-true c.number n e)) m))

number-there' : (bs : List Block) (x : ℕ) (b : Block) → slice_get bs x ≡ Some b → Among b.number (block_numbers bs)
number-there' bs x b e = map-in (λ (d : Block). d.number) b bs (slice-member bs x b e)

place-at : (bs : List Block) (x : ℕ) (b : Block) → slice_get bs x ≡ Some b → Apart (block_numbers bs) → block_place b.number bs ≡ x
place-at [] x b e a = absurd (cc)
place-at (c ∷ bs) zero b e a =
    let same : c ≡ b = some-same c b e in
    λ k. cond (not ((ap (λ q. nat_eq q b.number) (ap (λ (d : Block). d.number) same) ∙ eq-eqb b.number b.number refl) k)) (1 + block_place b.number bs) 0
place-at (c ∷ bs) (suc x) b e a =
    (λ k. cond (not (other-number c bs b.number a.0 (number-there' bs x b e) k)) (1 + block_place b.number bs) 0) ∙ (one-add (block_place b.number bs) ∙ ap suc (place-at bs x b e a.1))

place-only : (bs : List Block) (x : ℕ) (b : Block) → slice_get bs x ≡ Some b → (m : ℕ) → nat_eq m b.number ≡ false → nat_eq (block_place m bs) x ≡ false
place-only [] x b e m n = absurd (cc)
place-only (c ∷ bs) zero b e m n =
    let same : c ≡ b = some-same c b e in
    (λ k. nat_eq (cond (not ((ap (λ (d : Block). nat_eq d.number m) same ∙ (eqb-sym b.number m ∙ n)) k)) (1 + block_place m bs) 0) 0) ∙ differ 0 (1 + block_place m bs) (omega arith)
place-only (c ∷ bs) (suc x) b e m n = go (nat_eq c.number m) (place-only bs x b e m n)
  where
    go : (y : Bool) → nat_eq (block_place m bs) x ≡ false → nat_eq (cond (not y) (1 + block_place m bs) 0) (suc x) ≡ false
    go true ih = eqb-sym 0 (suc x) ∙ differ 0 (suc x) (omega arith)
    go false ih = apart-suc (block_place m bs) x ih

-- what is copied is virtual

ranges-append : (xs ys : List Arrival) → FromRanges xs → FromRanges ys → FromRanges (xs ++ ys)
ranges-append [] ys r q = q
ranges-append (a ∷ xs) ys r q = (r.0, ranges-append xs ys r.1 q)

ranges-pairs : (bs : List Block) (c : ℕ) (os : List Operand) → phi_pairs os ≡ true → FromRanges (arrivals_of bs c os)
ranges-pairs bs c [] e = tt
ranges-pairs bs c (operands.Reg s ∷ operands.Block n ∷ os) e = (pair-virtual (operands.Reg s ∷ operands.Block n ∷ os) s e here, ranges-pairs bs c os (second_of_both (is_virtual_use s) (phi_pairs os) e))
ranges-pairs bs c os e = absurd (cc)

module _ (t : Target) (bs : List Block) where
  ranges-in : (c : ℕ) (is : List Instr) → ((i : Instr) → Among i is → does is_phi t i ≡ true → phi_pairs (drop 1 i.operands) ≡ true) → FromRanges (arrivals_in t bs c is)
  ranges-in c [] h = tt
  ranges-in c (i ∷ is) h = ranges-append (instr_arrivals t bs c i) (arrivals_in t bs (c + phi_number t i) is) (go (does is_phi t i) refl) (ranges-in (c + phi_number t i) is (λ y m. h y (there m)))
    where
      go : (y : Bool) → does is_phi t i ≡ y → FromRanges (cond y (arrivals_of bs c (drop 1 i.operands)) [])
      go true e = ranges-pairs bs c (drop 1 i.operands) (h i here e)
      go false e = tt

none-if : (t : Target) (is : List Instr) → ((i : Instr) → Among i is → does is_phi t i ≡ false) → NoPhis t is
none-if t [] h = tt
none-if t (i ∷ is) h = (h i here, none-if t is (λ y m. h y (there m)))

-- the incoming registers of these blocks are numbered from c on; the next number
abbrev passed : Target → List Block → ℕ → ℕ
passed t [] c = c
passed t (b ∷ pre) c = passed t pre (c + phi_count t b.instrs)

passed-snoc : (t : Target) (pre : List Block) (b : Block) (c : ℕ) → passed t (pre ++ b ∷ []) c ≡ passed t pre c + phi_count t b.instrs
passed-snoc t [] b c = refl
passed-snoc t (d ∷ pre) b c = passed-snoc t pre b (c + phi_count t d.instrs)

counter-at : (t : Target) (pre : List Block) (b : Block) (after : List Block) (c : ℕ) → Apart (block_numbers (pre ++ b ∷ after)) → counter t c (pre ++ b ∷ after) b.number ≡ passed t pre c
counter-at t [] b after c a = λ k. cond (eq-eqb b.number b.number refl k) c (counter t (c + phi_count t b.instrs) after b.number)
counter-at t (d ∷ pre) b after c a =
    let there' = map-in (λ (e : Block). e.number) b (pre ++ b ∷ after) (right-in b pre (b ∷ after) here) in
    (λ k. cond (other-number d (pre ++ b ∷ after) b.number a.0 there' k) c (counter t (c + phi_count t d.instrs) (pre ++ b ∷ after) b.number)) ∙ counter-at t pre b after (c + phi_count t d.instrs) a.1

instrs-at : (pre : List Block) (b : Block) (after : List Block) → Apart (block_numbers (pre ++ b ∷ after)) → instrs_of (pre ++ b ∷ after) b.number ≡ b.instrs
instrs-at [] b after a = λ k. elim (cond (eq-eqb b.number b.number refl k) (Some b) (find (λ d. nat_eq d.number b.number) after)) as (λ q. List Instr) [ None ↦ [] | Some d ↦ d.instrs ]
instrs-at (d ∷ pre) b after a =
    let there' = map-in (λ (e : Block). e.number) b (pre ++ b ∷ after) (right-in b pre (b ∷ after) here) in
    (λ k. elim (cond (other-number d (pre ++ b ∷ after) b.number a.0 there' k) (Some d) (find (λ e. nat_eq e.number b.number) (pre ++ b ∷ after))) as (λ q. List Instr) [ None ↦ [] | Some e ↦ e.instrs ]) ∙ instrs-at pre b after a.1

module _ (t : Target) (f : Function) (rules : (n : ℕ) (b : Block) → slice_get f.blocks n ≡ Some b → AllRules t f n b) where
  apart : Apart (block_numbers f.blocks)
  apart = numbers-apart f (λ k b e. (rules k b e).block.five)

  place : (x : ℕ) (b : Block) → slice_get f.blocks x ≡ Some b → IsPlace f.blocks b.number x
  place x b e = record { at = place-at f.blocks x b e apart; only = place-only f.blocks x b e }

  pub each : EachRules t f
  each = each-rules t f rules

  pub from-ranges : FromRanges (arrs t f)
  from-ranges = ranges-in t f.blocks (bound t f) (all_instrs f.blocks) (λ i m e. let z = flat-of (λ (b : Block). b.instrs) i f.blocks m in pairs i (phi-shape t f i (each z.0 i z.1 z.2) e))
    where
      pairs : (i : Instr) → PhiShape t f i.operands → phi_pairs (drop 1 i.operands) ≡ true
      pairs i s = ap (λ os. phi_pairs (drop 1 os)) s.are ∙ s.pairs

  way-on : (x : ℕ) (c : Block) → slice_get f.blocks x ≡ Some c → (m : ℕ) → has_number (successors_of c) m ≡ true → WayOn t f (ending t f x) c.number m
  way-on x c at m leads = go (found-or t f f.blocks m)
    where
      first-one : ℕ
      first-one = counter t (bound t f) f.blocks m

      go : (instrs_of f.blocks m ≡ []) ⊎ ((b : Block) × Among b f.blocks × (b.number ≡ m) × (instrs_of f.blocks m ≡ b.instrs)) → WayOn t f (ending t f x) c.number m
      go (inl e) = subst (λ is. PhisOn t (h t f) (bound t f) (Behind (bound t f) (ending t f x)) c.number first-one is) (sym e) done
      go (inr z) =
          let k = member-slice z.0 f.blocks z.1 in
          let leads' : has_number (successors_of c) z.0.number ≡ true = subst (λ q. has_number (successors_of c) q ≡ true) (sym z.2) leads in
          let built = build t f x c at (place x c at) k.0 z.0 leads' first-one z.0.instrs (λ i mi. let j = member-slice i z.0.instrs mi in (j.0, (rules k.0 z.0 k.1).instrs j.0 i j.1)) (λ ci p a. embed t f ci p f.blocks (bound t f) m (subst (λ is. PhiAt t ci p first-one is) (sym z.3) a)) in
          subst (λ is. PhisOn t (h t f) (bound t f) (Behind (bound t f) (ending t f x)) c.number first-one is) (sym z.3) built

  -- a block by its place
  module _ (k : ℕ) (b : Block) (at : slice_get f.blocks k ≡ Some b) (after : List Block) (behind : drop (suc k) f.blocks ≡ after) where
    abbrev A : List Writes
    A = ending t f k

    at-of : (pre : List Instr) (i : Instr) (is : List Instr) → pre ++ i ∷ is ≡ b.instrs → slice_get b.instrs (length pre) ≡ Some i
    at-of pre i is e = ap (λ js. slice_get js (length pre)) (sym e) ∙ at-length pre i is

    rules-of : (pre : List Instr) (i : Instr) (is : List Instr) → pre ++ i ∷ is ≡ b.instrs → PlacedRules t f k b (length pre) i
    rules-of pre i is e = (rules k b at).instrs (length pre) i (at-of pre i is e)

    before-of : (pre rest : List Instr) → pre ++ rest ≡ b.instrs → take (length pre) b.instrs ≡ pre
    before-of pre rest e = ap (take (length pre)) (sym e) ∙ take-length pre rest

    -- behind one that is no phi stands none
    no-phi : (pre : List Instr) (y : Instr) (rest : List Instr) → pre ++ y ∷ rest ≡ b.instrs → (i : Instr) → Among i pre → does is_phi t i ≡ false → does is_phi t y ≡ false
    unfolding V7
    no-phi pre y rest e i m n = go (does is_phi t y) refl (rules-of pre y rest e).seven
      where
        go : (c : Bool) → does is_phi t y ≡ c → (not c || phi_stands t f k b (length pre) y) ≡ true → does is_phi t y ≡ false
        go false g h = g
        go true g h = absurd (let all : list_all (does is_phi t) pre ≡ true = ap (list_all (does is_phi t)) (sym (before-of pre (y ∷ rest) e)) ∙ first-of-three (list_all (does is_phi t) (take (length pre) b.instrs)) (not (nat_eq k 0)) (lists_once (named_blocks y) (predecessors f b.number)) h in let one : does is_phi t i ≡ true = all-of (does is_phi t) i pre m all in cc)

    none-behind : (pre is : List Instr) → pre ++ is ≡ b.instrs → (i : Instr) → Among i pre → does is_phi t i ≡ false → NoPhis t is
    none-behind pre [] e i m n = tt
    none-behind pre (y ∷ is) e i m n = (no-phi pre y is e i m n, none-behind (pre ++ y ∷ []) is (append_assoc pre (y ∷ []) is ∙ e) i (left-in i pre (y ∷ []) m) n)

    -- behind a terminator stand terminators
    ends-too : (pre : List Instr) (y : Instr) (rest : List Instr) → pre ++ y ∷ rest ≡ b.instrs → (i : Instr) → Among i pre → does is_terminator t i ≡ true → does is_terminator t y ≡ true
    unfolding V8
    ends-too pre y rest e i m n = go (does is_terminator t y) (rules-of pre y rest e).eight
      where
        any : list_any (does is_terminator t) (take (length pre) b.instrs) ≡ true
        any = ap (list_any (does is_terminator t)) (before-of pre (y ∷ rest) e) ∙ any-in (does is_terminator t) i pre m n

        go : (c : Bool) → (c || not (list_any (does is_terminator t) (take (length pre) b.instrs))) ≡ true → c ≡ true
        go true g = refl
        go false g = absurd (let z : not true ≡ true = ap not (sym any) ∙ g in cc)

    is-end : (pre : List Instr) (y : Instr) (rest : List Instr) → pre ++ y ∷ rest ≡ b.instrs → does is_phi t y ≡ false → does is_terminator t y ≡ true → IsEnd t f A b y
    is-end pre y rest e n q =
        let r = rules-of pre y rest e in
        let ke = known-effect t f y r.own in
        let last = sym (ap (passes is_terminator) ke.1) ∙ q in
        let m = slice-member b.instrs (length pre) y (at-of pre y rest e) in
        record {
          plain = n;
          ends = q;
          named = λ o mo. named t f y r.own o mo;
          free = ends-free t f y ke.0 ke.1 r.own.one last b;
          target = λ w g. way-on k b at w (target-followed t f k b after behind (rules k b at) y ke.0 ke.1 m n w g);
        }

    all-end : (pre is : List Instr) → pre ++ is ≡ b.instrs → (i : Instr) → Among i pre → does is_phi t i ≡ false → does is_terminator t i ≡ true → AreEnds t f A b is
    all-end pre [] e i m n q = tt
    all-end pre (y ∷ is) e i m n q = (
      is-end pre y is e (no-phi pre y is e i m n) (ends-too pre y is e i m q),
      all-end (pre ++ y ∷ []) is (append_assoc pre (y ∷ []) is ∙ e) i (left-in i pre (y ∷ []) m) n q,
    )

    shape-of : (pre is : List Instr) → pre ++ is ≡ b.instrs → Shape t f A b is
    shape-of pre [] e = none
    shape-of pre (i ∷ is) e = go (does is_phi t i) refl (does is_terminator t i) refl (shape-of (pre ++ i ∷ []) is next)
      where
        next : (pre ++ i ∷ []) ++ is ≡ b.instrs
        next = append_assoc pre (i ∷ []) is ∙ e

        last : Among i (pre ++ i ∷ [])
        last = right-in i pre (i ∷ []) here

        go : (c : Bool) → does is_phi t i ≡ c → (d : Bool) → does is_terminator t i ≡ d → Shape t f A b is → Shape t f A b (i ∷ is)
        go true g d w rest = phi g rest
        go false g true w rest = ends (is-end pre i is e g w, all-end (pre ++ i ∷ []) is next i last g w)
        go false g false w rest =
            let r = rules-of pre i is e in
            let ke = known-effect t f i r.own in
            other (g, none-behind (pre ++ i ∷ []) is next i last g) w (λ o mo. named t f i r.own o mo) (names-none t f i ke.0 ke.1 r.own.one g (no-branch t i ke.0 ke.1 w)) rest

    facts-of : (c : ℕ) → counter t (bound t f) f.blocks b.number ≡ c → instrs_of f.blocks b.number ≡ b.instrs → BlockFacts t f k c b after
    facts-of c counted found = record {
      counted = counted;
      found = found;
      shape = shape-of [] b.instrs refl;
      leads = λ s m. way-on k b at s.block (number-in s.block (successors_of b) (map-in (λ (e : Successor). e.block) s b.successors m));
      below = λ m e. way-on k b at m (falls-followed t f k b after behind (rules k b at) m e);
    }

  pub laid : (pre bs : List Block) → pre ++ bs ≡ f.blocks → Facts t f (length pre) (passed t pre (bound t f)) bs
  laid pre [] e = tt
  laid pre (b ∷ bs) e =
      let at : slice_get f.blocks (length pre) ≡ Some b = ap (λ xs. slice_get xs (length pre)) (sym e) ∙ at-length pre b bs in
      let behind : drop (suc (length pre)) f.blocks ≡ bs = ap (drop (suc (length pre))) (sym e) ∙ past-length pre b bs in
      let a : Apart (block_numbers (pre ++ b ∷ bs)) = subst (λ xs. Apart (block_numbers xs)) (sym e) apart in
      let counted = ap (λ xs. counter t (bound t f) xs b.number) (sym e) ∙ counter-at t pre b bs (bound t f) a in
      let found = ap (λ xs. instrs_of xs b.number) (sym e) ∙ instrs-at pre b bs a in
      let rest = laid (pre ++ b ∷ []) bs (append_assoc pre (b ∷ []) bs ∙ e) in (
        facts-of (length pre) b at bs behind (passed t pre (bound t f)) counted found,
        subst (λ x. Facts t f x (passed t pre (bound t f) + phi_count t b.instrs) bs) (length-append pre (b ∷ [])) (subst (λ c. Facts t f (length (pre ++ b ∷ [])) c bs) (passed-snoc t pre b (bound t f)) rest),
      )

  pub first-bare : FirstBare t f f.blocks
  unfolding V7
  first-bare = go f.blocks refl
    where
      go : (bs : List Block) → f.blocks ≡ bs → FirstBare t f bs
      go [] e = tt
      go (b ∷ bs) e = none-if t b.instrs (λ i m. plain i (member-slice i b.instrs m))
        where
          at : slice_get f.blocks 0 ≡ Some b
          at = ap (λ xs. slice_get xs 0) e

          plain : (i : Instr) → (j : ℕ) × (slice_get b.instrs j ≡ Some i) → does is_phi t i ≡ false
          plain i j = by (does is_phi t i) refl ((rules 0 b at).instrs j.0 i j.1).seven
            where
              by : (c : Bool) → does is_phi t i ≡ c → (not c || phi_stands t f 0 b j.0 i) ≡ true → does is_phi t i ≡ false
              by false g h = g
              by true g h = absurd (let z : false ≡ true = second-of-three (list_all (does is_phi t) (take j.0 b.instrs)) false (lists_once (named_blocks i) (predecessors f b.number)) h in cc)
