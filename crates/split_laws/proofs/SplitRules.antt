-- The blocks of a function with a range split keep the rules on terminators, successors and blocks that are named.
use Rattle.std.proofs.Common.{◌≡◌, not, ◌||◌, ◌&&◌, ◌++◌, ◌+◌, ◌∙◌, ℕ, zero, suc, Bool, true, false, cond, List, [], ◌∷◌, Some, None, drop, take, filter, flat_map, length, refl, sym, ap, subst, eq-eqb, append_assoc}
use Rattle.std.specs.Prelude.{nat_eq, option_to_list, slice_get}
use Rattle.std.specs.List.{list_all, list_any}
use Rattle.target_base.specs.declared.types.Target.{Target}
use Rattle.target_base.specs.Numbers.{op_number}
use Rattle.target_base.proofs.Tests.{first_of_both, second_of_both}
use Rattle.mir_func.specs.declared.func.Operand.{Operand}
use Rattle.mir_func.specs.declared.func.Instr.{Instr}
use Rattle.mir_func.specs.declared.func.Block.{Block}
use Rattle.mir_func.specs.Value.{Function}
use Rattle.mir_func.specs.Edits.{made}
use Rattle.mir_func.specs.Binding.{does, is_branch, is_terminator, passes}
use Rattle.mir_meaning.specs.Codes.{fallen_into, first_number, is_open}
use Rattle.mir_meaning.specs.Points.{Entry, Point, Start}
use Rattle.mir_meaning.specs.Registers.{has_number}
use Rattle.mir_meaning.specs.Renaming.{renamed_instr}
use Rattle.mir_meaning.specs.Rules.{V1, V5, V8, V9, block_numbers, branch_targets, lists_once, named_blocks, successors_of}
use Rattle.live_lanes.specs.declared.ask.labels.Mark.{Mark}
use Rattle.live_laws.proofs.Effects.Blocks.{slice-member}
use Rattle.live_laws.proofs.Effects.Lists.{all-of}
use Rattle.split_kit.specs.Split.{as_part, block_split, blocks_split, changed, instrs_split, label_behind, last_point, number_behind, part, start_label, whole}
use Rattle.split_laws.specs.Laws.{next_gap}
use Rattle.split_laws.proofs.Ends.{Stay, copy-effect, falls-stay, open-stays}
use Rattle.split_laws.proofs.RulesKept.{names-same}

or-true : (b : Bool) → (b || true) ≡ true
or-true true = refl
or-true false = refl

-- behind a terminator stand terminators only

module _ (t : Target) where
  abbrev ends : Instr → Bool
  ends i = does is_terminator t i

  abbrev ordered : List Instr → Bool
  ordered [] = true
  ordered (i ∷ is) = cond (ends i) (list_all ends is) (ordered is)

  abbrev rule : List Instr → ℕ → Instr → Bool
  rule is j i = ends i || not (list_any ends (take j is))

  all-by : (is : List Instr) → ((j : ℕ) (i : Instr) → slice_get is j ≡ Some i → ends i ≡ true) → list_all ends is ≡ true
  all-by [] h = refl
  all-by (x ∷ is) h = λ k. h 0 x refl k && all-by is (λ j i e. h (suc j) i e) k

  past-one : (a : Bool) → (a || not true) ≡ true → a ≡ true
  past-one true e = refl
  past-one false e = absurd (cc)

  ordered-by : (is : List Instr) → ((j : ℕ) (i : Instr) → slice_get is j ≡ Some i → rule is j i ≡ true) → ordered is ≡ true
  ordered-by [] h = refl
  ordered-by (x ∷ is) h = go (ends x) refl (ordered-by is)
    where
      go : (b : Bool) → ends x ≡ b → (((j : ℕ) (i : Instr) → slice_get is j ≡ Some i → rule is j i ≡ true) → ordered is ≡ true) → cond b (list_all ends is) (ordered is) ≡ true
      go true e ih = all-by is (λ j i q. past-one (ends i) (subst (λ b. (ends i || not (b || list_any ends (take j is))) ≡ true) e (h (suc j) i q)))
      go false e ih = ih (λ j i q. subst (λ b. (ends i || not (b || list_any ends (take j is))) ≡ true) e (h (suc j) i q))

  rule-by : (is : List Instr) → ordered is ≡ true → (j : ℕ) (i : Instr) → slice_get is j ≡ Some i → rule is j i ≡ true
  rule-by [] h j i e = absurd (cc)
  rule-by (x ∷ is) h zero i e = or-true (ends i)
  rule-by (x ∷ is) h (suc j) i e = go (ends x) h (rule-by is)
    where
      go : (b : Bool) → cond b (list_all ends is) (ordered is) ≡ true → (ordered is ≡ true → (j : ℕ) (i : Instr) → slice_get is j ≡ Some i → rule is j i ≡ true) → (ends i || not (b || list_any ends (take j is))) ≡ true
      go true q ih = ap (λ c. c || not true) (all-of ends i is (slice-member is j i e) q)
      go false q ih = ih q j i e

  -- a copy

  copy-goes-on : (id : ℕ) (os : List Operand) → ends (made id (op_number 0) os) ≡ false
  copy-goes-on id os = ap (passes is_terminator) (copy-effect t id os)

  past-copies : (c : Bool) (id : ℕ) (os : List Operand) (ys : List Instr) → ordered (cond c (made id (op_number 0) os ∷ []) [] ++ ys) ≡ ordered ys
  past-copies true id os ys = ap (λ b. cond b (list_all ends ys) (ordered ys)) (copy-goes-on id os)
  past-copies false id os ys = refl

  copy-alone : (c : Bool) (id : ℕ) (os : List Operand) → ordered (cond c (made id (op_number 0) os ∷ []) []) ≡ true
  copy-alone true id os = ap (λ b. cond b true true) (copy-goes-on id os)
  copy-alone false id os = refl

  no-copy : (c : Bool) → c ≡ false → (id : ℕ) (os : List Operand) (ys : List Instr) → list_all ends ys ≡ true → list_all ends (cond c (made id (op_number 0) os ∷ []) [] ++ ys) ≡ true
  no-copy true e id os ys h = absurd (cc)
  no-copy false e id os ys h = h

  no-copy-alone : (c : Bool) → c ≡ false → (id : ℕ) (os : List Operand) → list_all ends (cond c (made id (op_number 0) os ∷ []) []) ≡ true
  no-copy-alone true e id os = absurd (cc)
  no-copy-alone false e id os = refl

unchanged : (is_live : Bool) (from to : ℕ) → to ≡ from → (is_live && not (nat_eq from to)) ≡ false
unchanged is_live from to e = ap (λ b. is_live && not b) (eq-eqb from to (sym e)) ∙ go is_live
  where
    go : (a : Bool) → (a && not true) ≡ false
    go true = refl
    go false = refl

targets-append : (t : Target) (xs ys : List Instr) → branch_targets t (xs ++ ys) ≡ branch_targets t xs ++ branch_targets t ys
targets-append t [] ys = refl
targets-append t (x ∷ xs) ys = go (does is_branch t x) (targets-append t xs ys)
  where
    go : (c : Bool) → branch_targets t (xs ++ ys) ≡ branch_targets t xs ++ branch_targets t ys →
        flat_map named_blocks (cond c (x ∷ filter (does is_branch t) (xs ++ ys)) (filter (does is_branch t) (xs ++ ys))) ≡ flat_map named_blocks (cond c (x ∷ filter (does is_branch t) xs) (filter (does is_branch t) xs)) ++ branch_targets t ys
    go true ih = ap (λ ns. named_blocks x ++ ns) ih ∙ sym (append_assoc (named_blocks x) (branch_targets t xs) (branch_targets t ys))
    go false ih = ih

-- numbers of blocks

module _ (live : Point → Bool) (f : Function) (v : ℕ) (ms : List Mark) where
  pub numbers-same : (n : ℕ) (bs : List Block) → block_numbers (blocks_split live f v ms n bs) ≡ block_numbers bs
  numbers-same n [] = refl
  numbers-same n (b ∷ bs) = ap (λ ns. b.number ∷ ns) (numbers-same (number_behind live f v ms n (b ∷ [])) bs)

  pub first-numbers : (k n : ℕ) (bs : List Block) → block_numbers (take k (blocks_split live f v ms n bs)) ≡ block_numbers (take k bs)
  first-numbers zero n bs = refl
  first-numbers (suc k) n [] = refl
  first-numbers (suc k) n (b ∷ bs) = ap (λ ns. b.number ∷ ns) (first-numbers k (number_behind live f v ms n (b ∷ [])) bs)

module _ (t : Target) (live : Point → Bool) (f : Function) (v : ℕ) (ms : List Mark) (b : Block) where
  abbrev split : ℕ → ℕ → List Instr → List Instr
  split n now is = instrs_split live f v ms n b now is

  abbrev Stays : ℕ → List Instr → Type 0
  Stays now is = Stay t live f v ms b now is

  abbrev copy : ℕ → ℕ → List Operand
  copy from to = whole true (part f to) ∷ whole false (part f from) ∷ []

  ends-all : (n now : ℕ) (is : List Instr) → list_all (ends t) is ≡ true → label_behind ms b.number (next_gap is) now ≡ now → Stays now is → list_all (ends t) (split n now is) ≡ true
  ends-all n now [] h e s =
      let to = label_behind ms b.number None now in
      let at_end = live (last_point (Start b.number) b.instrs) in
      no-copy-alone t (at_end && not (nat_eq now to)) (unchanged at_end now to e) n (copy now to)
  ends-all n now (i ∷ is) h e s =
      let to = label_behind ms b.number (Some i.id) now in
      let copies = changed f n (live (Entry i.id)) now to in
      let own = first_of_both (ends t i) (list_all (ends t) is) h in
      let rest = ends-all (n + length copies) to is (second_of_both (ends t i) (list_all (ends t) is) h) (s.0 own) s.1 in
      no-copy t (live (Entry i.id) && not (nat_eq now to)) (unchanged (live (Entry i.id)) now to e) n (copy now to) (renamed_instr (as_part f v to) i ∷ split (n + length copies) to is) (λ k. own k && rest k)

  in-order : (n now : ℕ) (is : List Instr) → ordered t is ≡ true → Stays now is → ordered t (split n now is) ≡ true
  in-order n now [] h s =
      let to = label_behind ms b.number None now in
      copy-alone t (live (last_point (Start b.number) b.instrs) && not (nat_eq now to)) n (copy now to)
  in-order n now (i ∷ is) h s =
      let to = label_behind ms b.number (Some i.id) now in
      let copies = changed f n (live (Entry i.id)) now to in
      past-copies t (live (Entry i.id) && not (nat_eq now to)) n (copy now to) (renamed_instr (as_part f v to) i ∷ split (n + length copies) to is)
      ∙ go (ends t i) h s.0 (λ g e. ends-all (n + length copies) to is g e s.1) (λ g. in-order (n + length copies) to is g s.1)
    where
      go : (c : Bool) → cond c (list_all (ends t) is) (ordered t is) ≡ true
          → (c ≡ true → label_behind ms b.number (next_gap is) (label_behind ms b.number (Some i.id) now) ≡ label_behind ms b.number (Some i.id) now)
          → (list_all (ends t) is ≡ true → label_behind ms b.number (next_gap is) (label_behind ms b.number (Some i.id) now) ≡ label_behind ms b.number (Some i.id) now → list_all (ends t) (split (n + length (changed f n (live (Entry i.id)) now (label_behind ms b.number (Some i.id) now))) (label_behind ms b.number (Some i.id) now) is) ≡ true)
          → (ordered t is ≡ true → ordered t (split (n + length (changed f n (live (Entry i.id)) now (label_behind ms b.number (Some i.id) now))) (label_behind ms b.number (Some i.id) now) is) ≡ true)
          → cond c (list_all (ends t) (split (n + length (changed f n (live (Entry i.id)) now (label_behind ms b.number (Some i.id) now))) (label_behind ms b.number (Some i.id) now) is)) (ordered t (split (n + length (changed f n (live (Entry i.id)) now (label_behind ms b.number (Some i.id) now))) (label_behind ms b.number (Some i.id) now) is)) ≡ true
      go true q e all more = all q (e refl)
      go false q e all more = more q

  -- blocks that are named

  copies-name : (c : Bool) (id : ℕ) (from to : ℕ) → flat_map named_blocks (cond c (made id (op_number 0) (copy from to) ∷ []) []) ≡ []
  copies-name true id from to = refl
  copies-name false id from to = refl

  copies-branch : (c : Bool) (id : ℕ) (from to : ℕ) → branch_targets t (cond c (made id (op_number 0) (copy from to) ∷ []) []) ≡ []
  copies-branch true id from to = ap (λ q. flat_map named_blocks (cond (passes is_branch q) (made id (op_number 0) (copy from to) ∷ []) [])) (copy-effect t id (copy from to))
  copies-branch false id from to = refl

  named-append : (xs ys : List Instr) → flat_map named_blocks (xs ++ ys) ≡ flat_map named_blocks xs ++ flat_map named_blocks ys
  named-append [] ys = refl
  named-append (x ∷ xs) ys = ap (λ ns. named_blocks x ++ ns) (named-append xs ys) ∙ sym (append_assoc (named_blocks x) (flat_map named_blocks xs) (flat_map named_blocks ys))

  pub names-all : (n now : ℕ) (is : List Instr) → flat_map named_blocks (split n now is) ≡ flat_map named_blocks is
  names-all n now [] =
      let to = label_behind ms b.number None now in
      copies-name (live (last_point (Start b.number) b.instrs) && not (nat_eq now to)) n now to
  names-all n now (i ∷ is) =
      let to = label_behind ms b.number (Some i.id) now in
      let copies = changed f n (live (Entry i.id)) now to in
      let one = renamed_instr (as_part f v to) i in
      let rest = split (n + length copies) to is in
      named-append copies (one ∷ rest)
      ∙ (λ k. copies-name (live (Entry i.id) && not (nat_eq now to)) n now to k ++ (names-same (as_part f v to) i k ++ names-all (n + length copies) to is k))

  targets-same : (n now : ℕ) (is : List Instr) → branch_targets t (split n now is) ≡ branch_targets t is
  targets-same n now [] =
      let to = label_behind ms b.number None now in
      copies-branch (live (last_point (Start b.number) b.instrs) && not (nat_eq now to)) n now to
  targets-same n now (i ∷ is) =
      let to = label_behind ms b.number (Some i.id) now in
      let copies = changed f n (live (Entry i.id)) now to in
      let one = renamed_instr (as_part f v to) i in
      let rest = split (n + length copies) to is in
      targets-append t copies (one ∷ rest)
      ∙ ((λ k. copies-branch (live (Entry i.id) && not (nat_eq now to)) n now to k ++ branch_targets t (one ∷ rest))
      ∙ go one (names-same (as_part f v to) i) rest (targets-same (n + length copies) to is) (does is_branch t i))
    where
      go : (one : Instr) → named_blocks one ≡ named_blocks i → (rest : List Instr) → branch_targets t rest ≡ branch_targets t is → (c : Bool) →
          flat_map named_blocks (cond c (one ∷ filter (does is_branch t) rest) (filter (does is_branch t) rest)) ≡ flat_map named_blocks (cond c (i ∷ filter (does is_branch t) is) (filter (does is_branch t) is))
      go one e rest ih true = λ k. e k ++ ih k
      go one e rest ih false = ih

  -- the block that is split

  abbrev made-block : ℕ → Block
  made-block n = block_split live f v ms n b

  module _ (n : ℕ) (stays : Stays (start_label ms b.number) b.instrs) where
    pub eight : ((j : ℕ) (i : Instr) → slice_get b.instrs j ≡ Some i → V8 t b j i ≡ true) → (j : ℕ) (i : Instr) → slice_get (made-block n).instrs j ≡ Some i → V8 t (made-block n) j i ≡ true
    unfolding V8
    eight h j i e = rule-by t (made-block n).instrs (in-order n (start_label ms b.number) b.instrs (ordered-by t b.instrs h) stays) j i e

    open-same : is_open t (made-block n) ≡ is_open t b
    open-same = ap (λ c. t.options.open_blocks && nat_eq (length b.successors) 0 && c) (open-stays t live f v ms b n (start_label ms b.number) b.instrs stays)

    fallen-same : (bs cs : List Block) → first_number cs ≡ first_number bs → fallen_into t (made-block n) cs ≡ fallen_into t b bs
    fallen-same bs cs e = λ k. cond (falls-stay t live f v ms b n (start_label ms b.number) b.instrs stays k && not (open-same k)) (e k) None

    pub nine : (g : Function) (k : ℕ) → first_number (drop (suc k) g.blocks) ≡ first_number (drop (suc k) f.blocks)
        → list_any (λ i. does is_branch t i && not (V1 t g i)) (made-block n).instrs ≡ false → list_any (λ i. does is_branch t i && not (V1 t f i)) b.instrs ≡ false
        → V9 t g k (made-block n) ≡ V9 t f k b
    unfolding V9
    nine g k e right right' =
        λ j. (right ∙ sym right') j
        || open-same j
        || lists_once (successors_of b) (targets-same n (start_label ms b.number) b.instrs j ++ option_to_list (fallen-same (drop (suc k) f.blocks) (drop (suc k) g.blocks) e j))

  pub five : (n : ℕ) (g : Function) (k : ℕ) → block_numbers g.blocks ≡ block_numbers f.blocks → block_numbers (take k g.blocks) ≡ block_numbers (take k f.blocks) → V5 g k (made-block n) ≡ V5 f k b
  unfolding V5
  five n g k all before =
      λ j. not (has_number (before j) b.number)
      && list_all (has_number (all j)) (successors_of b ++ names-all n (start_label ms b.number) b.instrs j)
