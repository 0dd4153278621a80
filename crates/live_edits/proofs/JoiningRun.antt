-- A run over a join.
use Rattle.std.proofs.Common.{◌≡◌, ◌∙◌, not, ℕ, Bool, true, false, cond, List, Option, Some, None, refl, sym, ap, subst, ◌&&◌}
use Rattle.target_base.specs.declared.types.IndexId.{IndexId}
use Rattle.target_base.specs.declared.types.Target.{Target}
use Rattle.target_base.specs.Registers.{widths_of_some}
use Rattle.mir_func.specs.Value.{Function}
use Rattle.mir_func.specs.Binding.{class_of}
use Rattle.mir_meaning.specs.Registers.{range_widths}
use Rattle.live_lanes.specs.Doing.{IsComputed}
use Rattle.edit_laws.specs.Edits.{Edit, all_edited}
use Rattle.live_edits.specs.declared.edit_run.EditRun.{EditRun}
use Rattle.live_edits.specs.declared.fold.Join.{Join}
use Rattle.live_edits.specs.Drafts.{IsOrderOf}
use Rattle.live_edits.specs.EditedRuns.{MayBegin, HasTable}
use Rattle.live_edits.specs.Folded.{is_narrower, joined_class, joined, narrowed, folded, fold_edits, MayFold, Narrows}
use Rattle.live_edits.specs.Runs.{table_of}
use Rattle.live_edits.proofs.JoiningClasses.{narrow-law}
use Rattle.live_edits.proofs.JoiningLaw.{fold-law}
use Rattle.live_edits.proofs.JoiningPlaces.{fold-places-law}

class-widths : (t : Target) (f : Function) (j : Join) (x : Option IndexId) → (x ≡ None → range_widths t f j.gone ≡ range_widths t f j.keep) → widths_of_some t (joined_class t f j x) ≡ range_widths t f j.keep
class-widths t f j None same = go (is_narrower t f j.gone j.keep && not (is_narrower t f j.keep j.gone))
  where
    go : (u : Bool) → widths_of_some t (cond u (class_of f j.gone) (class_of f j.keep)) ≡ range_widths t f j.keep
    go true = same refl
    go false = refl
class-widths t f j (Some x) same = refl

pub order-there : (t : Target) (r : EditRun) (j : Join) (ids : List ℕ) → MayFold t r j ids → IsOrderOf r.draft.func r.draft.order
order-there t r j ids may = record { positions = may.join.computed.positions; homes = may.join.computed.homes; layout = may.join.computed.layout; numbered = may.join.computed.numbered }

-- nothing is done
pub folds-none : (t : Target) (r : EditRun) (j : Join) (ids : List ℕ) → MayFold t r j ids → HasTable t r.draft.func r
folds-none t r j ids may = record { func = refl; computed = may.join.computed; fresh = may.fresh }

-- the edits may begin
pub may-begin : (t : Target) (r : EditRun) (j : Join) (ids : List ℕ) (es : List Edit) → MayFold t r j ids → es ≡ fold_edits t r.draft.func j ids → MayBegin t r es
may-begin t r j ids es may same =
    let places = fold-places-law t r.draft.func j ids may.join.function may.join.known may.join.phis may.join.named in
    subst (MayBegin t r) (sym same) (record {
      fresh = may.fresh;
      edited = record { computed = may.join.computed; rules = may.join.rules; last = may.join.last; function = may.join.function; blocks = may.join.blocks; places = places.0; spare = places.1 };
    })

-- then the function is the joined one, and with its class the folded one
pub folds-all : (t : Target) (r mid new : EditRun) (j : Join) (ids : List ℕ) (es : List Edit) → MayFold t r j ids → es ≡ fold_edits t r.draft.func j ids → HasTable t (all_edited r.draft.func es) mid → Narrows t j mid new → HasTable t (folded t j r.draft.func) new
folds-all t r mid new j ids es may same has narrows =
    let f : Function = r.draft.func in
    let done : all_edited f es ≡ joined t j f = ap (all_edited f) same ∙ fold-law t f j ids may.join.function may.join.known may.join.named in
    let there : HasTable t (joined t j f) mid = subst (λ (g : Function). HasTable t g mid) done has in
    let table : table_of mid ≡ table_of new =
    λ k. record { lanes = (sym narrows.lanes) k; order = (sym narrows.order) k; flow = (sym narrows.flow) k; rows = ((sym narrows.rows) k).rows } in
    record {
      func = narrows.func ∙ ap (narrowed t j) there.func;
      computed = subst (IsComputed t (folded t j f)) table (narrow-law t (joined t j f) (table_of mid) j.keep (joined_class t f j j.index) there.computed (class-widths t f j j.index may.join.widths));
      fresh = record {
        draft = (λ k. (narrows.draft_log k).items) ∙ there.fresh.draft;
        rows = (λ k. (narrows.rows k).log.items) ∙ there.fresh.rows;
        touched = (λ k. (narrows.touched k).items) ∙ there.fresh.touched;
        gone = (λ k. (narrows.gone k).keys) ∙ there.fresh.gone;
        aside = (λ k. (narrows.aside k).items) ∙ there.fresh.aside;
      };
    }
