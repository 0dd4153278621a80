-- Parts of a sequence, one after the other.
use Rattle.std.proofs.Common.{◌≡◌, ℕ, suc, ◌+◌, ◌-◌, ◌*◌, ◌/◌, ◌<◌, ◌≤◌, Bool, true, false, ◌&&◌, ◌||◌, not, List, [], ◌∷◌, ◌++◌, length, get_or, set, take, drop, map, Option, Some, None, refl, sym, ◌∙◌, arith, length-drop, append_assoc, nat_eq}
use Rattle.std.specs.List.{list_any, list_all, range_with_len}
use Rattle.std.proofs.lemmas.List.{drop_more, map_more, length-map}
use Rattle.target_base.specs.declared.types.ClassId.{ClassId}
use Rattle.target_base.specs.declared.types.Target.{Target}
use Rattle.target_base.specs.Registers.{lanes_of, widths_of_some, regs_of}
use Rattle.target_base.specs.Rules.{regs_of_some}
use Rattle.target_base.specs.Storage.{class_units, unit_width}
use Rattle.mir_func.specs.declared.func.Operand.{Operand}
use Rattle.mir_func.specs.declared.func.Instr.{Instr}
use Rattle.mir_meaning.specs.Registers.{has_number}
use Rattle.two_address.specs.declared.sequences.SubregInput.{SubregInput}
use Rattle.two_address.specs.Sequences.{part, parts_of, into_part, filled_lanes, keeping_text}

-- operands behind a pair
pub pair_more : (k : ℕ) (os : List Operand) (a b : Operand) → k < length os / 2 → a ≡ get_or os (2 * k) a → b ≡ get_or os (2 * k + 1) b → parts_of (drop (2 * k) os) ≡ part a b ++ parts_of (drop (2 * (k + 1)) os)
pair_more k os a b h at next =
    let first = drop_more os (2 * k) a (omega arith) in
    let second = drop_more os (2 * k + 1) b (omega arith) in
    let e : 2 * (k + 1) ≡ 2 * k + 1 + 1 = omega arith in
    rw (e, first, second, ← at, ← next) refl

short : (os : List Operand) → length os ≤ 1 → parts_of os ≡ []
short [] h = refl
short (a ∷ []) h = refl
short (a ∷ b ∷ os) h = absurd (omega arith)

pub pairs_all : (k : ℕ) (os : List Operand) → length os / 2 ≤ k → parts_of (drop (2 * k) os) ≡ []
pairs_all k os h = short (drop (2 * k) os) (omega (arith, length-drop (2 * k) os))

-- moves of one part more
pub parts_more : (to i : ℕ) (ps : List SubregInput) (d : SubregInput) (old out next : List Instr) → i < length ps → out ≡ old ++ map (into_part to) (take i ps) → next ≡ out ++ into_part to (get_or ps i d) ∷ [] → next ≡ old ++ map (into_part to) (take (i + 1) ps)
parts_more to i ps d old out next h was made =
    made ∙ rw (was, append_assoc old (map (into_part to) (take i ps)) (into_part to (get_or ps i d) ∷ []), ← map_more (into_part to) ps i d h) refl

-- which lanes are filled

any-append : {X : Type 0} (p : X → Bool) (xs ys : List X) → list_any p (xs ++ ys) ≡ (list_any p xs || list_any p ys)
any-append p [] ys = refl
any-append p (x ∷ xs) ys = rw (any-append p xs ys) (or_assoc (p x) (list_any p xs) (list_any p ys))
  where
    or_assoc : (a b c : Bool) → (a || (b || c)) ≡ ((a || b) || c)
    or_assoc true b c = refl
    or_assoc false b c = refl

pub filled_is : (t : Target) (ps : List SubregInput) (n : ℕ) → list_any (λ p. has_number (lanes_of t p.index) n) ps ≡ has_number (filled_lanes t ps) n
filled_is t [] n = refl
filled_is t (p ∷ ps) n = rw (filled_is t ps n) (sym (any-append (nat_eq n) (lanes_of t p.index) (filled_lanes t ps)))

lanes_left : (k n : ℕ) → k < n → range_with_len k (n - k) ≡ k ∷ range_with_len (k + 1) (n - (k + 1))
lanes_left k n h = let e : n - k ≡ suc (n - (k + 1)) = omega arith in rw e refl

pub lane_next : (t : Target) (ps : List SubregInput) (k n : ℕ) (total : Bool) → k < n → list_any (λ p. has_number (lanes_of t p.index) k) ps ≡ true → list_all (has_number (filled_lanes t ps)) (range_with_len k (n - k)) ≡ total → list_all (has_number (filled_lanes t ps)) (range_with_len (k + 1) (n - (k + 1))) ≡ total
lane_next t ps k n total h holds was =
    let filled = sym (filled_is t ps k) ∙ holds in
    let e : list_all (has_number (filled_lanes t ps)) (range_with_len k (n - k)) ≡ (has_number (filled_lanes t ps) k && list_all (has_number (filled_lanes t ps)) (range_with_len (k + 1) (n - (k + 1)))) = rw (lanes_left k n h) refl in
    let f = rw filled at e in
    sym f ∙ was

pub lane_missing : (t : Target) (ps : List SubregInput) (k n : ℕ) (total : Bool) → k < n → list_any (λ p. has_number (lanes_of t p.index) k) ps ≡ false → list_all (has_number (filled_lanes t ps)) (range_with_len k (n - k)) ≡ total → false ≡ total
lane_missing t ps k n total h fails was =
    let filled = sym (filled_is t ps k) ∙ fails in
    let e : list_all (has_number (filled_lanes t ps)) (range_with_len k (n - k)) ≡ (has_number (filled_lanes t ps) k && list_all (has_number (filled_lanes t ps)) (range_with_len (k + 1) (n - (k + 1)))) = rw (lanes_left k n h) refl in
    let f = rw filled at e in
    sym f ∙ was

pub lanes_all : (t : Target) (ps : List SubregInput) (k n : ℕ) (total : Bool) → n ≤ k → list_all (has_number (filled_lanes t ps)) (range_with_len k (n - k)) ≡ total → true ≡ total
lanes_all t ps k n total h was = let e : n - k ≡ 0 = omega arith in rw e at was

not_true : (b : Bool) → not b ≡ true → b ≡ false
not_true true e = sym e
not_true false e = refl

not_false : (b : Bool) → not b ≡ false → b ≡ true
not_false true e = refl
not_false false e = sym e

pub lane_kept : (t : Target) (ps : List SubregInput) (k n : ℕ) (missing total : Bool) → k < n → missing ≡ not (list_any (λ p. has_number (lanes_of t p.index) k) ps) → missing ≡ false → list_all (has_number (filled_lanes t ps)) (range_with_len k (n - k)) ≡ total → list_all (has_number (filled_lanes t ps)) (range_with_len (k + 1) (n - (k + 1))) ≡ total
lane_kept t ps k n missing total h is fails was = lane_next t ps k n total h (not_false _ (sym is ∙ fails)) was

pub lane_lost : (t : Target) (ps : List SubregInput) (k n : ℕ) (missing total : Bool) → k < n → missing ≡ not (list_any (λ p. has_number (lanes_of t p.index) k) ps) → missing ≡ true → list_all (has_number (filled_lanes t ps)) (range_with_len k (n - k)) ≡ total → false ≡ total
lane_lost t ps k n missing total h is holds was = lane_missing t ps k n total h (not_true _ (sym is ∙ holds)) was

pub lane_count : (t : Target) (c : Option ClassId) → length (class_units t.regs (regs_of_some t.classes c)) ≡ length (widths_of_some t c)
lane_count t None = refl
lane_count t (Some c) = sym (length-map (class_units t.regs (regs_of t c)) (unit_width t.units))

-- the first instruction with the text of another
pub text_kept : (i : Instr) (xs : List Instr) (x y : Instr) → 0 < length xs → x ≡ get_or xs 0 x → y ≡ record x { flags = i.flags; tail = i.tail } → set xs 0 y ≡ keeping_text i xs
text_kept i [] x y h at made = absurd (omega arith)
text_kept i (z ∷ xs) x y h at made = rw (made, at) refl

pub no_text : (i : Instr) (xs : List Instr) → length xs ≤ 0 → xs ≡ keeping_text i xs
no_text i [] h = refl
no_text i (x ∷ xs) h = absurd (omega arith)

pub ruleset pieces = (pair_more, pairs_all, parts_more, filled_is, lane_next, lane_missing, lanes_all, lane_count, text_kept, no_text)
