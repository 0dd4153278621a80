-- Hints of the instructions that touch a range are those of all instructions.
use Rattle.std.proofs.Common.{◌≡◌, ◌∙◌, ℕ, zero, suc, ◌+◌, ◌<◌, ◌≤◌, List, [], ◌∷◌, ◌++◌, Bool, true, false, cond, refl, sym, ap, arith, map, length, get_or, take, append-nil}
use Rattle.std.specs.Prelude.{◌&&◌, ◌||◌, not, nat_lt, nat_le, filter, filter_map, flat_map, find, Option, Some, None, is_none, option_map, slice_index}
use Rattle.std.specs.List.{list_any, list_all, zip, cons_option}
use Rattle.std.specs.Cmp.{IsStrictWeakOrder}
use Rattle.std.proofs.lemmas.List.{take_more, take_all, length-map}
use Rattle.std.proofs.lemmas.List.Elements.{filter_map-append}
use Rattle.std.proofs.lemmas.List.MinMax.{IsStrictWeakOrder-by_number, IsStrictWeakOrder-flip}
use Rattle.std.proofs.lemmas.Bool.{or_left, or_right}
use Rattle.std.proofs.lemmas.Bool.Decides.{nat_tests}
use Rattle.target_base.specs.declared.types.Reg.{Reg}
use Rattle.target_base.specs.declared.types.Target.{Target}
use Rattle.target_base.specs.Rules.{is_copy}
use Rattle.mir_func.specs.declared.func.RegOp.{RegOp}
use Rattle.mir_func.specs.declared.func.Loc.{Loc}
use Rattle.mir_func.specs.declared.func.Operand.{Operand}
use Rattle.mir_func.specs.declared.func.Operand.TheVariants as operands
use Rattle.mir_func.specs.declared.func.Instr.{Instr}
use Rattle.mir_func.specs.declared.func.Block.{Block}
use Rattle.mir_func.specs.Value.{Function}
use Rattle.mir_func.specs.Binding.{does, registers, class_of}
use Rattle.mir_meaning.specs.Points.{is_range, counts, touches}
use Rattle.mir_meaning.specs.Places.{domain}
use Rattle.evictor.specs.Best.{better, best_with}
use Rattle.evictor.specs.Spots.{IsSpot}
use Rattle.evictor.specs.Hints.{counts_if_copy, copies_count, hint_at, is_more_frequent}
use Rattle.evictor.specs.Candidates.{Assignment, register_of, other_side, if_among, hinted, block_hints, all_hints, most_frequent}
use Rattle.evictor.proofs.Spots.{spots, spot_of, mapped_at}
use Rattle.live_lanes.specs.Ordered.{AreHomes}
use Rattle.evictor.proofs.Uses.{home_of}
use Rattle.evictor.proofs.Tops.{top, top_more, and_parts, all_agree, find_agree}

-- what is kept of a list by a test that all else fails

kept_hints : {X Y : Type 0} (h : X → Option Y) (p ok : X → Bool) → ((x : X) → ok x ≡ true → p x ≡ false → h x ≡ None) → (xs : List X) → list_all ok xs ≡ true → filter_map h (filter p xs) ≡ filter_map h xs
kept_hints h p ok none [] all = refl
kept_hints {X} {Y} h p ok none (x ∷ xs) all = let parts = and_parts (ok x) (list_all ok xs) all in go (p x) refl parts.0 (kept_hints h p ok none xs parts.1)
  where
    go : (b : Bool) → p x ≡ b → ok x ≡ true → filter_map h (filter p xs) ≡ filter_map h xs → filter_map h (cond b (x ∷ filter p xs) (filter p xs)) ≡ filter_map h (x ∷ xs)
    go true e good rest = filter_map-append h (x ∷ []) (filter p xs) ∙ (ap (λ ys. filter_map h (x ∷ []) ++ ys) rest ∙ sym (filter_map-append h (x ∷ []) xs))
    go false e good rest = rest ∙ sym (filter_map-append h (x ∷ []) xs ∙ ap (λ ys. ys ++ filter_map h xs) (nothing (none x good e)))
      where
        nothing : h x ≡ None → filter_map h (x ∷ []) ≡ []
        nothing f = ap (λ o. cons_option o []) f

-- a copy that hints at a register touches the range

touches_first : (v : ℕ) (d o : RegOp) (os : List Operand) → list_all counts (d ∷ o ∷ registers os) ≡ true → is_range v d.loc ≡ true → list_any (λ q. is_range v q.loc && counts q) (d ∷ o ∷ registers os) ≡ true
touches_first v d o os all is =
    let parts = and_parts (counts d) (list_all counts (o ∷ registers os)) all in
    or_left (is_range v d.loc && counts d) (list_any (λ q. is_range v q.loc && counts q) (o ∷ registers os)) (ap (λ b. b && counts d) is ∙ parts.0)

touches_second : (v : ℕ) (d o : RegOp) (os : List Operand) → list_all counts (d ∷ o ∷ registers os) ≡ true → is_range v o.loc ≡ true → list_any (λ q. is_range v q.loc && counts q) (d ∷ o ∷ registers os) ≡ true
touches_second v d o os all is =
    let parts = and_parts (counts d) (list_all counts (o ∷ registers os)) all in
    let more = and_parts (counts o) (list_all counts (registers os)) parts.1 in
    or_right (is_range v d.loc && counts d) (list_any (λ q. is_range v q.loc && counts q) (o ∷ registers os)) (or_left (is_range v o.loc && counts o) (list_any (λ q. is_range v q.loc && counts q) (registers os)) (ap (λ b. b && counts o) is ∙ more.0))

no_side : (v : ℕ) (os : List Operand) → list_all counts (registers os) ≡ true → list_any (λ q. is_range v q.loc && counts q) (registers os) ≡ false → other_side v os ≡ None
no_side v (operands.Reg d ∷ operands.Reg o ∷ os) all none = go (not (is_none d.index && is_none o.index)) (is_range v d.loc) (is_range v o.loc) refl refl
  where
    go : (x a b : Bool) → is_range v d.loc ≡ a → is_range v o.loc ≡ b → cond x None (cond a (Some o.loc) (cond b (Some d.loc) None)) ≡ None
    go true a b e f = refl
    go false true b e f = let h = touches_first v d o os all e in cc
    go false false true e f = let h = touches_second v d o os all f in cc
    go false false false e f = refl
no_side v [] all none = refl
no_side v (operands.Reg d ∷ []) all none = refl
no_side v (operands.Reg d ∷ o ∷ os) all none = refl
no_side v (o ∷ os) all none = refl

pub no_hint : (t : Target) (f : Function) (a : Assignment) (v : ℕ) (i : Instr) → counts_if_copy t i ≡ true → touches v i ≡ false → hinted t f a v i ≡ None
no_hint t f a v i count none = go (does is_copy t i) refl
  where
    go : (b : Bool) → does is_copy t i ≡ b → cond {A = Option Reg} b (elim (other_side v i.operands) [ None ↦ None | Some l ↦ if_among (domain t (class_of f v)) (register_of a l) ]) None ≡ None
    go false e = refl
    go true e =
        let all : list_all counts (registers i.operands) ≡ true = sym (ap (λ b. not b || list_all counts (registers i.operands)) e) ∙ count in
        ap (λ (l : Option Loc). elim l [ None ↦ None | Some l ↦ if_among (domain t (class_of f v)) (register_of a l) ]) (no_side v i.operands all none)

-- hints of the places are all hints

mapped_hints : {X Y Z : Type 0} (h : Y → Option Z) (g : X → Y) (xs : List X) → filter_map h (map g xs) ≡ filter_map (λ x. h (g x)) xs
mapped_hints h g [] = refl
mapped_hints h g (x ∷ xs) = filter_map-append h (g x ∷ []) (map g xs) ∙ (ap (λ ys. filter_map h (g x ∷ []) ++ ys) (mapped_hints h g xs) ∙ sym (filter_map-append (λ y. h (g y)) (x ∷ []) xs))

hints_mapped : {X Y Z : Type 0} (w : Y → Z) (h : X → Option Y) (xs : List X) → filter_map (λ x. option_map w (h x)) xs ≡ map w (filter_map h xs)
hints_mapped w h [] = refl
hints_mapped {X} {Y} {Z} w h (x ∷ xs) = go (h x) (hints_mapped w h xs)
  where
    go : (o : Option Y) → filter_map (λ x. option_map w (h x)) xs ≡ map w (filter_map h xs) → cons_option (option_map w o) (filter_map (λ x. option_map w (h x)) xs) ≡ map w (cons_option o (filter_map h xs))
    go None rest = rest
    go (Some y) rest = ap (λ zs. w y ∷ zs) rest

module _ (t : Target) (f : Function) (a : Assignment) (freqs : List ℕ) (v : ℕ) where
  block_part : (k : ℕ) (is : List Instr) → list_all (counts_if_copy t) is ≡ true → filter_map (hint_at t f a freqs v) (map (λ i. (k, i)) (filter (touches v) is)) ≡ map (λ r. (get_or freqs k 0, r)) (filter_map (hinted t f a v) is)
  block_part k is count =
      mapped_hints (hint_at t f a freqs v) (λ i. (k, i)) (filter (touches v) is)
      ∙ (kept_hints (λ i. hint_at t f a freqs v (k, i)) (touches v) (counts_if_copy t) (λ i good none. ap (option_map (λ r. (get_or freqs k 0, r))) (no_hint t f a v i good none)) is count
      ∙ hints_mapped (λ r. (get_or freqs k 0, r)) (hinted t f a v) is)

  hints_from : (k : ℕ) (fs : List ℕ) (bs : List Block) → length fs ≡ length bs → copies_count t bs ≡ true → ((j : ℕ) → get_or freqs (k + j) 0 ≡ get_or fs j 0) → filter_map (hint_at t f a freqs v) (spots v k bs) ≡ flat_map (block_hints t f a v) (zip fs bs)
  hints_from k [] [] same count h = refl
  hints_from k (g ∷ fs) [] same count h = absurd (omega arith)
  hints_from k [] (b ∷ bs) same count h = absurd (omega arith)
  hints_from k (g ∷ fs) (b ∷ bs) same count h =
      let here : get_or freqs k 0 ≡ g = ap (λ n. get_or freqs n 0) (omega arith) ∙ h 0 in
      let parts = and_parts (list_all (counts_if_copy t) b.instrs) (copies_count t bs) count in
      filter_map-append (hint_at t f a freqs v) (map (λ i. (k, i)) (filter (touches v) b.instrs)) (spots v (suc k) bs)
      ∙ (ap (λ hs. hs ++ filter_map (hint_at t f a freqs v) (spots v (suc k) bs)) (block_part k b.instrs parts.0 ∙ ap (λ n. map (λ r. (n, r)) (filter_map (hinted t f a v) b.instrs)) here)
      ∙ ap (λ hs. map (λ r. (g, r)) (filter_map (hinted t f a v) b.instrs) ++ hs) (hints_from (suc k) fs bs (omega arith) parts.1 (λ j. ap (λ n. get_or freqs n 0) (omega arith) ∙ h (suc j))))

  pub hints_are : length freqs ≡ length f.blocks → copies_count t f.blocks ≡ true → filter_map (hint_at t f a freqs v) (spots v 0 f.blocks) ≡ all_hints t f a freqs v
  hints_are same count = hints_from 0 freqs f.blocks same count (λ j. ap (λ n. get_or freqs n 0) (omega arith))

-- the most frequent one

frequent_order : IsStrictWeakOrder is_more_frequent
frequent_order = IsStrictWeakOrder-flip (λ (x y : ℕ × Reg). nat_lt x.0 y.0) (IsStrictWeakOrder-by_number (λ (x : ℕ × Reg). x.0))

at_most : (a b : ℕ) → not (nat_lt b a) ≡ nat_le a b
at_most a b = grind (arith, nat_tests)

pub top_is : (hs : List (ℕ × Reg)) → top is_more_frequent hs ≡ most_frequent hs
top_is hs = find_agree (λ h. list_all (λ g. not (is_more_frequent g h)) hs) (λ h. list_all (λ g. nat_le g.0 h.0) hs) (λ h. all_agree (λ g. not (is_more_frequent g h)) (λ g. nat_le g.0 h.0) (λ g. at_most g.0 h.0) hs) hs

pub top_with : (q : Option (ℕ × Reg)) (hs : List (ℕ × Reg)) → top is_more_frequent (hs ++ cons_option q []) ≡ best_with is_more_frequent q (top is_more_frequent hs)
top_with None hs = ap (top is_more_frequent) (append-nil hs)
top_with (Some h) hs = top_more is_more_frequent frequent_order hs h

-- one instruction more
pub hint_more : (t : Target) (f : Function) (a : Assignment) (freqs : List ℕ) (v k id : ℕ) (ids : List ℕ) (q best : Option (ℕ × Reg)) → ids ≡ map (λ (s : ℕ × Instr). s.1.id) (spots v 0 f.blocks) → k < length ids → id ≡ get_or ids k 0 → ((s : ℕ × Instr) → IsSpot f.blocks s → s.1.id ≡ id → q ≡ hint_at t f a freqs v s) → best ≡ top is_more_frequent (filter_map (hint_at t f a freqs v) (take k (spots v 0 f.blocks))) → best_with is_more_frequent q best ≡ top is_more_frequent (filter_map (hint_at t f a freqs v) (take (k + 1) (spots v 0 f.blocks)))
hint_more t f a freqs v k id ids q best e h at gives was =
    let s = spot_of v k id f.blocks ids e h at in
    let all = spots v 0 f.blocks in
    let n = take_more (spots v 0 f.blocks) k s.0 s.1 ∙ ap (λ (x : ℕ × Instr). take k (spots v 0 f.blocks) ++ x ∷ []) s.2 in
    let split = ap (filter_map (hint_at t f a freqs v)) n ∙ filter_map-append (hint_at t f a freqs v) (take k (spots v 0 f.blocks)) (s.0 ∷ []) in
    ap (best_with is_more_frequent q) was
    ∙ (sym (top_with q (filter_map (hint_at t f a freqs v) (take k (spots v 0 f.blocks))))
    ∙ (ap (λ (o : Option (ℕ × Reg)). top is_more_frequent (filter_map (hint_at t f a freqs v) (take k (spots v 0 f.blocks)) ++ cons_option o [])) (gives s.0 s.3 s.4)
    ∙ ap (top is_more_frequent) (sym split)))

-- all instructions
pub hint_all : (t : Target) (f : Function) (a : Assignment) (freqs : List ℕ) (v k : ℕ) (ids : List ℕ) (best : Option (ℕ × Reg)) → ids ≡ map (λ (s : ℕ × Instr). s.1.id) (spots v 0 f.blocks) → length ids ≤ k → length freqs ≡ length f.blocks → copies_count t f.blocks ≡ true → best ≡ top is_more_frequent (filter_map (hint_at t f a freqs v) (take k (spots v 0 f.blocks))) → best ≡ most_frequent (all_hints t f a freqs v)
hint_all t f a freqs v k ids best e h same count was =
    let many : length (spots v 0 f.blocks) ≤ k = omega (arith, ap length e, length-map (spots v 0 f.blocks) (λ (s : ℕ × Instr). s.1.id)) in
    was ∙ (ap (λ xs. top is_more_frequent (filter_map (hint_at t f a freqs v) xs)) (take_all k (spots v 0 f.blocks) many) ∙ (ap (top is_more_frequent) (hints_are t f a freqs v same count) ∙ top_is (all_hints t f a freqs v)))

-- what an instruction there hints at

pub hint_none : (t : Target) (f : Function) (a : Assignment) (freqs : List ℕ) (v : ℕ) (s : ℕ × Instr) (i : Instr) → i ≡ s.1 → None ≡ hinted t f a v i → None ≡ hint_at t f a freqs v s
hint_none t f a freqs v s i same none = ap (option_map (λ r. (get_or freqs s.0 0, r))) (none ∙ ap (hinted t f a v) same)

pub hint_found : (t : Target) (f : Function) (a : Assignment) (homes freqs : List ℕ) (v id : ℕ) (s : ℕ × Instr) (position freq : ℕ) (r : Reg) (i : Instr) → AreHomes f.blocks homes → IsSpot f.blocks s → s.1.id ≡ id → position ≡ get_or homes id 0 → freq ≡ get_or freqs position 0 → i ≡ s.1 → Some r ≡ hinted t f a v i → Some (freq, r) ≡ hint_at t f a freqs v s
hint_found t f a homes freqs v id s position freq r i are at is stands often same found =
    let home : position ≡ s.0 = stands ∙ ap (λ n. get_or homes n 0) (sym is) ∙ home_of f.blocks homes s are at in
    let n : freq ≡ get_or freqs s.0 0 = often ∙ ap (λ n. get_or freqs n 0) home in
    ap (λ n. Some (n, r)) n ∙ ap (option_map (λ q. (get_or freqs s.0 0, q))) (found ∙ ap (hinted t f a v) same)
