-- What a join makes of the instruction of an id, by where it stands.
use Rattle.std.proofs.Common.{arith, zero, suc, ◌≡◌, ◌≢◌, ◌∷◌, ◌∙◌, ◌+◌, ◌<◌, ℕ, Bool, true, false, cond, List, [], Option, Some, None, length, map, take, get_or, refl, sym, ap, add-one, ◌++◌, eqb-true}
use Rattle.std.specs.Prelude.{IfOk, Ok, Err, find, flat_map, nat_eq, slice_get}
use Rattle.std.specs.Option.{option_map_or}
use Rattle.std.specs.declared.result.Result.{Result}
use Rattle.std.proofs.lemmas.Option.{same_Some}
use Rattle.target_base.specs.declared.types.Target.{Target}
use Rattle.meaning.specs.Live.{Among, here, there}
use Rattle.mir_func.specs.declared.func.Block.{Block}
use Rattle.mir_func.specs.declared.func.Instr.{Instr}
use Rattle.mir_func.specs.Value.{Function, IsFunction}
use Rattle.mir_func.specs.At.{instr_at}
use Rattle.live_laws.proofs.Effects.Blocks.{member-slice, slice-member}
use Rattle.live_edits.specs.declared.edit.Edit.{Edit as CodeEdit}
use Rattle.edit_laws.specs.Edits.{Edit, Erase}
use Rattle.live_edits.specs.declared.fold.Join.{Join}
use Rattle.live_edits.specs.Drafts.{IsPlaceOf}
use Rattle.live_edits.specs.Folded.{all_instrs, edit_at, fold_edit}
use Rattle.live_edits.specs.Runs.{edit_of}
use Rattle.live_edits.proofs.JoiningEdits.{single-of}
use Rattle.live_edits.proofs.JoiningLaw.{all-apart, find-own}
use Rattle.live_edits.proofs.JoiningMembers.{instr-member}
use Rattle.live_edits.proofs.JoiningPlaces.{made-member}

placed-member : (bs : List Block) (p k : ℕ) (i : Instr) → instr_at bs p k ≡ Some i → Among i (flat_map (λ (b : Block). b.instrs) bs)
placed-member bs p k i e = go (slice_get bs p) refl e
  where
    go : (q : Option Block) → slice_get bs p ≡ q → slice_get (option_map_or (λ (b : Block). b.instrs) q []) k ≡ Some i → Among i (flat_map (λ (b : Block). b.instrs) bs)
    go None d h = absurd (cc)
    go (Some b) d h = instr-member b i bs (slice-member bs p b d) (slice-member b.instrs k i h)

none-found : (id : ℕ) (xs : List Instr) → ((i : Instr) → Among i xs → i.id ≢ id) → find (λ (x : Instr). nat_eq x.id id) xs ≡ None
none-found id [] h = refl
none-found id (x ∷ xs) h = go (nat_eq x.id id) refl (none-found id xs (λ i m. h i (there m)))
  where
    go : (u : Bool) → nat_eq x.id id ≡ u → find (λ (y : Instr). nat_eq y.id id) xs ≡ None → cond u (Some x) (find (λ (y : Instr). nat_eq y.id id) xs) ≡ None
    go true e rest = absurd (h x here (eqb-true x.id id e))
    go false e rest = rest

abbrev edit_by : Target → Function → Join → ℕ → Option Instr → Edit
edit_by t f j id q = elim q [ None ↦ Erase id | Some i ↦ fold_edit t f j i ]

pub edit-none : (t : Target) (f : Function) (j : Join) (id : ℕ) → IsPlaceOf f id None → edit_at t f j id ≡ Erase id
edit-none t f j id none = ap (edit_by t f j id) (none-found id (all_instrs f) (λ i m.
    let b = made-member (λ (c : Block). c.instrs) f.blocks i m in
    let p = member-slice b.0 f.blocks b.1 in
    let k = member-slice i b.0.instrs b.2 in
    none p.0 k.0 i (ap (λ (q : Option Block). slice_get (option_map_or (λ (c : Block). c.instrs) q []) k.0) p.1 ∙ k.1)))

pub edit-found : (t : Target) (f : Function) (j : Join) (id p k : ℕ) (i : Instr) → IsFunction f.blocks f.next_id → instr_at f.blocks p k ≡ Some i → i.id ≡ id → edit_at t f j id ≡ fold_edit t f j i
edit-found t f j id p k i is at own =
    let found : find (λ (x : Instr). nat_eq x.id i.id) (all_instrs f) ≡ Some i = find-own (all_instrs f) (all-apart f (single-of f is)) i (placed-member f.blocks p k i at) in
    ap (edit_at t f j) (sym own) ∙ ap (edit_by t f j i.id) found

-- what code answers is that
pub edit-answer : {E : Type 0} (t : Target) (f : Function) (j : Join) (id p k : ℕ) (i : Instr) (O : Type 0) (r : Result CodeEdit E) → IsFunction f.blocks f.next_id → Some i ≡ instr_at f.blocks p k → (O → IsPlaceOf f id (Some (p, k)))
    → IfOk r (λ e. edit_of e ≡ fold_edit t f j i) → IfOk r (λ e. O → edit_of e ≡ edit_at t f j id)
edit-answer t f j id p k i O (Err e) is at place h = tt
edit-answer t f j id p k i O (Ok e) is at place h = λ o.
    let found = place o in
    let own : found.0 ≡ i = same_Some found.0 i (sym found.1 ∙ sym at) in
    h ∙ sym (edit-found t f j id p k i is (sym at) (sym (ap (λ (x : Instr). x.id) own) ∙ found.2))

-- one more edit of a list

take-last : (xs : List ℕ) (k d : ℕ) → k < length xs → take (suc k) xs ≡ take k xs ++ get_or xs k d ∷ []
take-last [] k d h = absurd (omega (arith, h))
take-last (x ∷ xs) zero d h = refl
take-last (x ∷ xs) (suc k) d h = ap (λ ys. x ∷ ys) (take-last xs k d (omega (arith, h)))

take-more : (xs : List ℕ) (k d : ℕ) → k < length xs → take (k + 1) xs ≡ take k xs ++ get_or xs k d ∷ []
take-more xs k d h = ap (λ n. take n xs) (add-one k) ∙ take-last xs k d h

map-append : {X Y : Type 0} (g : X → Y) (xs ys : List X) → map g (xs ++ ys) ≡ map g xs ++ map g ys
map-append g [] ys = refl
map-append g (x ∷ xs) ys = ap (λ zs. g x ∷ zs) (map-append g xs ys)

pub edits-more : (g : ℕ → Edit) (old new : List CodeEdit) (e : CodeEdit) (xs : List ℕ) (k d id : ℕ) → k < length xs → id ≡ get_or xs k d → new ≡ old ++ e ∷ [] → edit_of e ≡ g id → map edit_of old ≡ map g (take k xs) → map edit_of new ≡ map g (take (k + 1) xs)
edits-more g old new e xs k d id within own push own-edit before =
    ap (map edit_of) push
    ∙ (map-append edit_of old (e ∷ [])
    ∙ ((λ i. before i ++ (own-edit ∙ ap g own) i ∷ [])
    ∙ (sym (map-append g (take k xs) (get_or xs k d ∷ []))
    ∙ ap (map g) (sym (take-more xs k d within)))))
