-- What is in physical form so far.
use Rattle.std.proofs.Common.{◌≡◌, ℕ, zero, suc, ◌+◌, ◌<◌, ◌≤◌, Bool, true, false, cond, not, min, List, [], ◌∷◌, ◌++◌, length, get_or, set, take, drop, map, refl, ap, sym, ◌∙◌, arith, append_assoc, append-nil, take-append-drop}
use Rattle.std.specs.List.{filter}
use Rattle.std.proofs.lemmas.List.{drop_more, drop-set-lt, map_more, map-append, length-map, take-append-le}
use Rattle.std.proofs.lemmas.List.Sums.{length-filter, count_by-le-length}
use Rattle.target_base.specs.declared.types.Reg.{Reg}
use Rattle.target_base.specs.declared.types.Target.{Target}
use Rattle.mir_func.specs.declared.func.Instr.{Instr}
use Rattle.mir_func.specs.declared.func.Block.{Block}
use Rattle.mir_func.specs.Value.{IsFunction, id_total}
use Rattle.phi_elim.specs.Numbered.{instr_count}
use Rattle.phi_elim.proofs.Walks.{walk_more, drop_all}
use Rattle.phi_elim.proofs.Sizes.{instr_count-cons, id_total-cons}
use Rattle.rewriter.specs.Physical.{Assignment, physical_instr, physical_instrs, is_identity, physical_block, with_liveins}

-- one instruction more, unless it is a copy of a register to itself
kept_more : {X : Type 0} (p : X → Bool) (made next rest total : List X) (x : X) → next ≡ made ++ cond (p x) [] (x ∷ []) → made ++ filter (λ y. not (p y)) (x ∷ rest) ≡ total → next ++ filter (λ y. not (p y)) rest ≡ total
kept_more p made next rest total x e was = by_case (p x) e was
  where
    by_case : (b : Bool) → next ≡ made ++ cond b [] (x ∷ []) → made ++ cond (not b) (x ∷ filter (λ y. not (p y)) rest) (filter (λ y. not (p y)) rest) ≡ total → next ++ filter (λ y. not (p y)) rest ≡ total
    by_case true n w = rw (n, append-nil made) w
    by_case false n w = rw (n, append_assoc made (x ∷ []) (filter (λ y. not (p y)) rest)) w

pub instr_more : (t : Target) (rs : Assignment) (k : ℕ) (is made next total : List Instr) (i x : Instr) → k < length is → i ≡ get_or is k i → x ≡ physical_instr t rs i → next ≡ made ++ cond (is_identity t x) [] (x ∷ []) → made ++ physical_instrs t rs (drop k is) ≡ total → next ++ physical_instrs t rs (drop (k + 1) is) ≡ total
instr_more t rs k is made next total i x h at made_of e was =
    let d : drop k is ≡ i ∷ drop (k + 1) is = rw (← at) at (drop_more is k i h) in
    let rest = map (physical_instr t rs) (drop (k + 1) is) in
    let m : physical_instrs t rs (drop k is) ≡ filter (λ y. not (is_identity t y)) (x ∷ rest) =
    ap (physical_instrs t rs) d ∙ ap (λ z. filter (λ y. not (is_identity t y)) (z ∷ rest)) (sym made_of) in
    kept_more (is_identity t) made next (map (physical_instr t rs) (drop (k + 1) is)) total x e (rw m at was)

pub instrs_all : (t : Target) (rs : Assignment) (k : ℕ) (is made total : List Instr) → length is ≤ k → made ++ physical_instrs t rs (drop k is) ≡ total → made ≡ total
instrs_all t rs k is made total h was = let e = rw (drop_all k is h, append-nil made) at was in e

-- live-ins of one block more
pub liveins_more : (k : ℕ) (rs : List (List Reg)) (bs total : List Block) (r : List Reg) (x y : Block) → k < length bs → k < length rs → x ≡ get_or bs k x → r ≡ get_or rs k r → y ≡ record x { liveins = r } → take k bs ++ with_liveins (drop k rs) (drop k bs) ≡ total → take (k + 1) (set bs k y) ++ with_liveins (drop (k + 1) rs) (drop (k + 1) (set bs k y)) ≡ total
liveins_more k rs bs total r x y h g at is made was =
    let rest : with_liveins (drop k rs) (drop k bs) ≡ y ∷ with_liveins (drop (k + 1) rs) (drop (k + 1) bs) = rw (drop_more bs k x h, drop_more rs k r g, ← at, ← is, made) refl in
    rw (drop-set-lt (k + 1) bs k y (omega arith)) (walk_more bs k y _ _ total h was rest)

liveins_past : (k : ℕ) (rs : List (List Reg)) (bs : List Block) → min (length bs) (length rs) ≤ k → with_liveins (drop k rs) (drop k bs) ≡ drop k bs
liveins_past zero [] bs h = refl
liveins_past zero (r ∷ rs) [] h = refl
liveins_past zero (r ∷ rs) (b ∷ bs) h = absurd (omega arith)
liveins_past (suc k) [] bs h = refl
liveins_past (suc k) (r ∷ rs) [] h = nothing (drop k rs)
  where
    nothing : (qs : List (List Reg)) → with_liveins qs [] ≡ []
    nothing [] = refl
    nothing (q ∷ qs) = refl
liveins_past (suc k) (r ∷ rs) (b ∷ bs) h = liveins_past k rs bs (omega arith)

pub liveins_all : (k : ℕ) (rs : List (List Reg)) (bs total : List Block) → min (length bs) (length rs) ≤ k → take k bs ++ with_liveins (drop k rs) (drop k bs) ≡ total → bs ≡ total
liveins_all k rs bs total h was = let e = rw (liveins_past k rs bs h, take-append-drop k bs) at was in e

-- ids stay

pub ids_with_liveins : (x : ℕ) (rs : List (List Reg)) (bs : List Block) → id_total x (with_liveins rs bs) ≡ id_total x bs
ids_with_liveins x [] bs = refl
ids_with_liveins x (r ∷ rs) [] = refl
ids_with_liveins x (r ∷ rs) (b ∷ bs) =
    let first : Block = record b { liveins = r } in
    omega (arith, id_total-cons x first (with_liveins rs bs), id_total-cons x b bs, ids_with_liveins x rs bs)

pub length-with_liveins : (rs : List (List Reg)) (bs : List Block) → length (with_liveins rs bs) ≡ length bs
length-with_liveins [] bs = refl
length-with_liveins (r ∷ rs) [] = refl
length-with_liveins (r ∷ rs) (b ∷ bs) = ap suc (length-with_liveins rs bs)

pub function_with_liveins : (n : ℕ) (rs : List (List Reg)) (bs : List Block) → IsFunction bs n → IsFunction (with_liveins rs bs) n
function_with_liveins n rs bs sound = record {
  nonempty = rw (length-with_liveins rs bs) sound.nonempty;
  once = λ x. rw (ids_with_liveins x rs bs) (sound.once x);
}

-- no more instructions than before

fewer : (t : Target) (rs : Assignment) (is : List Instr) → length (physical_instrs t rs is) ≤ length is
fewer t rs is = omega (arith, length-filter (λ (y : Instr). not (is_identity t y)) (map (physical_instr t rs) is), count_by-le-length (λ (y : Instr). not (is_identity t y)) (map (physical_instr t rs) is), length-map is (physical_instr t rs))

pub fewer_in_all : (t : Target) (rs : Assignment) (bs : List Block) → instr_count (map (physical_block t rs) bs) ≤ instr_count bs
fewer_in_all t rs [] = omega arith
fewer_in_all t rs (b ∷ bs) = omega (arith, instr_count-cons (physical_block t rs b) (map (physical_block t rs) bs), instr_count-cons b bs, fewer t rs b.instrs, fewer_in_all t rs bs)

-- the first stays first
pub first_stays : {X : Type 0} (xs : List X) (y : X) → 1 ≤ length xs → take 1 (xs ++ y ∷ []) ≡ take 1 xs
first_stays xs y h = take-append-le 1 xs (y ∷ []) h

pub ruleset physicals = (map_more, instr_more, instrs_all, first_stays)
