-- The instructions of a place with tinies as items, whatever ids are given to new ones.
use Rattle.std.proofs.Common.{◌≡◌, ◌+◌, ◌∷◌, ◌++◌, ◌∙◌, ℕ, suc, false, List, length, map, refl, ap, []}
use Rattle.target_base.specs.declared.types.Target.{Target}
use Rattle.target_base.specs.Rules.{is_phi}
use Rattle.meaning.specs.Live.{Among as Member, here as first, there as later}
use Rattle.mir_func.specs.declared.func.Instr.{Instr}
use Rattle.mir_func.specs.declared.func.Block.{Block}
use Rattle.mir_func.specs.Value.{Function}
use Rattle.mir_func.specs.Binding.{does}
use Rattle.mir_meaning.specs.Codes.{item_of}
use Rattle.mir_meaning.specs.Points.{point_item}
use Rattle.instr_effects.proofs.Members.{either-elim, left-in, member-elim, member-none, right-in}
use Rattle.split_laws.proofs.Splitting.{as-item, map-append}
use Rattle.spiller.specs.Spilled.{Change, with_ids}
use Rattle.spill_laws.specs.Standing.{instrs_of}
use Rattle.spill_laws.proofs.Joined.{ids_change_nothing}

-- instructions that are no phis are the items that they are
pub point-items : (t : Target) (g : Function) (d : Block) (js : List Instr) → ((j : Instr) → Member j js → does is_phi t j ≡ false) → map (point_item t g d) js ≡ map (item_of t g d) js
point-items t g d [] h = refl
point-items t g d (j ∷ js) h = λ k. as-item t g d j (h j first) k ∷ point-items t g d js (λ i m. h i (later m)) k

ids-plain : (t : Target) (n : ℕ) (js : List Instr) → ((j : Instr) → Member j js → does is_phi t j ≡ false) → (x : Instr) → Member x (with_ids n js) → does is_phi t x ≡ false
ids-plain t n [] h x m = absurd (member-none x m)
ids-plain t n (j ∷ js) h x m = member-elim x (record j { id = n }) (with_ids (suc n) js) (λ e. ap (does is_phi t) e ∙ h j first) (λ k. ids-plain t (suc n) js (λ i q. h i (later q)) x k) m

-- what becomes of a place, its new instructions with the ids from n on
abbrev pub numbered-by : ℕ → Change → List Instr
numbered-by n x = with_ids n x.before ++ (x.own ++ with_ids (n + length x.before) x.behind)

pub numbered-items : (t : Target) (g : Function) (d : Block) (n : ℕ) (x : Change) → ((j : Instr) → Member j (instrs_of x) → does is_phi t j ≡ false)
    → map (point_item t g d) (numbered-by n x) ≡ map (item_of t g d) x.before ++ (map (item_of t g d) x.own ++ map (item_of t g d) x.behind)
numbered-items t g d n x h =
    let k = n + length x.before in
    let a = with_ids n x.before in
    let b = with_ids k x.behind in
    point-items t g d (a ++ (x.own ++ b)) plain
    ∙ (map-append (item_of t g d) a (x.own ++ b)
    ∙ (λ j. ids_change_nothing t g d n x.before j ++ (map-append (item_of t g d) x.own b ∙ (λ i. map (item_of t g d) x.own ++ ids_change_nothing t g d k x.behind i)) j))
  where
    plain : (j : Instr) → Member j (with_ids n x.before ++ (x.own ++ with_ids (n + length x.before) x.behind)) → does is_phi t j ≡ false
    plain j m =
        let k = n + length x.before in
        let a = with_ids n x.before in
        let b = with_ids k x.behind in
        either-elim j a (x.own ++ b) (ids-plain t n x.before (λ i q. h i (left-in i x.before (x.own ++ x.behind) q)) j)
        (λ q. either-elim j x.own b (λ r. h j (right-in j x.before (x.own ++ x.behind) (left-in j x.own x.behind r))) (ids-plain t k x.behind (λ i r. h i (right-in i x.before (x.own ++ x.behind) (right-in i x.own x.behind r))) j) q) m
