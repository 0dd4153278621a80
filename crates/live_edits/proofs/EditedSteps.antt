-- Edits one after the other, and what can be taken back of them.
use Rattle.std.proofs.Common.{◌≡◌, ◌∷◌, ◌++◌, ◌∙◌, ℕ, List, [], refl, sym, ap, subst, append_assoc, append-nil}
use Rattle.std.specs.Prelude.{reverse}
use Rattle.std.proofs.lemmas.List.{reverse-append, reverse-reverse}
use Rattle.target_base.specs.declared.types.Target.{Target}
use Rattle.mir_func.specs.Value.{Function}
use Rattle.mir_meaning.specs.Paths.{has}
use Rattle.instr_effects.specs.declared.lanes.LaneTable.{LaneTable}
use Rattle.instr_effects.specs.Numbered.{number_in}
use Rattle.instr_effects.specs.Steps.{Numbering}
use Rattle.live_edits.specs.declared.edit.Edit.{Edit as CodeEdit}
use Rattle.edit_laws.specs.Deferred.{deferred, all_deferred, all_gone, gone_after, Spares, SpareGone, TouchesEdit, TouchesEdits}
use Rattle.edit_laws.specs.Edits.{Edit, KeepsWays}
use Rattle.edit_laws.specs.Reasons.{Touched}
use Rattle.live_edits.specs.declared.draft.Draft.{Draft}
use Rattle.live_edits.specs.declared.draft.FormerInstr.{FormerInstr}
use Rattle.live_edits.specs.declared.edit_run.EditRun.{EditRun}
use Rattle.live_edits.specs.Aside.{is_aside}
use Rattle.live_edits.specs.Drafts.{IsOrderOf, undone, all_undone, IsDraftLogged}
use Rattle.live_edits.specs.EditedRuns.{DoesEdits, MayDo}
use Rattle.live_edits.specs.Runs.{edit_of, edits_of, AllSpared, HavePlaces, DoesEdit, KeepsTables}
use Rattle.live_edits.proofs.EditedGone.{after-same}

-- one edit behind others

deferred-more : (es : List Edit) (f : Function) (e : Edit) → all_deferred f (es ++ e ∷ []) ≡ deferred (all_deferred f es) e
deferred-more [] f e = refl
deferred-more (d ∷ es) f e = deferred-more es (deferred f d) e

gone-more : (es : List Edit) (gone : List ℕ) (e : Edit) → all_gone gone (es ++ e ∷ []) ≡ gone_after (all_gone gone es) e
gone-more [] gone e = refl
gone-more (d ∷ es) gone e = gone-more es (gone_after gone d) e

touches-more : (touched : Touched) (t : Target) (num : Numbering) (es : List Edit) (f : Function) (e : Edit) → TouchesEdits touched t f num es → KeepsWays t (all_deferred f es) e → TouchesEdit touched t (all_deferred f es) num e
    → TouchesEdits touched t f num (es ++ e ∷ [])
touches-more touched t num [] f e told keeps one = (keeps, one, tt)
touches-more touched t num (d ∷ es) f e told keeps one = (told.0, told.1, touches-more touched t num es (deferred f d) e told.2 keeps one)

-- edits leave what is erased by then
spare-more : (es : List Edit) (gone : List ℕ) (f : Function) (e : Edit) → SpareGone gone f (es ++ e ∷ []) → SpareGone gone f es × AllSpared (all_gone gone es) (all_deferred f es) e
spare-more [] gone f e spare = (tt, spare.0)
spare-more (d ∷ es) gone f e spare = let z = spare-more es (gone_after gone d) (deferred f d) e spare.1 in ((spare.0, z.0), z.1)

pub no-edits : (t : Target) (r : EditRun) (es : List Edit) → MayDo t r es → DoesEdits t r r []
no-edits t r es may = record {
  func = refl;
  order = may.order;
  function = may.function;
  gone = λ id. refl;
  touched = λ touched h aside. tt;
  tells = λ spare. may.tells;
  apart = may.apart;
  lanes = refl;
  flow = refl;
  rows = refl;
  aside = refl;
}

pub one-more-edit : (t : Target) (r s q : EditRun) (es : List Edit) (e : Edit) → DoesEdits t r s es → KeepsWays t s.draft.func e → DoesEdit t s q e → DoesEdits t r q (es ++ e ∷ [])
one-more-edit t r s q es e a keeps d = record {
  func = d.func ∙ (ap (λ (f : Function). deferred f e) a.func ∙ sym (deferred-more es r.draft.func e));
  order = d.order;
  function = d.function;
  gone = λ id. d.gone id ∙ (after-same e s.gone.keys (all_gone r.gone.keys es) a.gone id ∙ ap (has id) (sym (gone-more es r.gone.keys e)));
  touched = λ touched h aside.
      let one : TouchesEdit touched t s.draft.func (number_in r.lanes) e = subst (λ (ls : LaneTable). TouchesEdit touched t s.draft.func (number_in ls) e) a.lanes (d.touched touched h (λ x m l e. aside x m l (ap (λ v. is_aside v.items l) (sym a.aside) ∙ e))) in
      touches-more touched t (number_in r.lanes) es r.draft.func e (a.touched touched (λ x m. h x (d.kept x m)) (λ x m. aside x (d.kept x m)))
      (subst (λ (f : Function). KeepsWays t f e) a.func keeps) (subst (λ (f : Function). TouchesEdit touched t f (number_in r.lanes) e) a.func one);
  tells = λ spare.
      let z = spare-more es r.gone.keys r.draft.func e spare in
      d.tells (λ id m. subst (λ (f : Function). Spares f e id) (sym a.func) (z.1 id (sym (a.gone id) ∙ m))) a.apart (a.tells z.0);
  apart = d.apart a.apart;
  lanes = d.lanes ∙ a.lanes;
  flow = d.flow ∙ a.flow;
  rows = d.rows ∙ a.rows;
  aside = d.aside ∙ a.aside;
}

-- as far as the loop over edits has come
pub record DoesSome (t : Target) (old new : EditRun) (all rest : List Edit) : Type 0 where
  pub first : List Edit
  pub list : all ≡ first ++ rest
  pub does : DoesEdits t old new first
  pub places : HavePlaces t new.draft.func rest

pub does-none : (t : Target) (r : EditRun) (es : List Edit) → MayDo t r es → DoesSome t r r es es
does-none t r es may = record { first = []; list = refl; does = no-edits t r es may; places = may.places }

pub does-more : (t : Target) (r s q : EditRun) (all rest : List Edit) (e : Edit) → DoesSome t r s all (e ∷ rest) → DoesEdit t s q e → DoesSome t r q all rest
does-more t r s q all rest e a d = record {
  first = a.first ++ e ∷ [];
  list = a.list ∙ sym (append_assoc a.first (e ∷ []) rest);
  does = one-more-edit t r s q a.first e a.does a.places.1 d;
  places = subst (λ (f : Function). HavePlaces t f rest) (sym d.func) a.places.2;
}

pub does-all : (t : Target) (r s : EditRun) (all : List Edit) → DoesSome t r s all [] → DoesEdits t r s all
does-all t r s all a = subst (DoesEdits t r s) (sym (a.list ∙ append-nil a.first)) a.does

-- logs of drafts

undone-append : (xs ys : List FormerInstr) (f : Function) → all_undone (xs ++ ys) f ≡ all_undone xs (all_undone ys f)
undone-append [] ys f = refl
undone-append (x ∷ xs) ys f = ap (undone x) (undone-append xs ys f)

pub draft-same : (x : Draft) → IsOrderOf x.func x.order → IsDraftLogged x x
draft-same x o = record { added = []; list = sym (append-nil x.log.items); back = refl; order = o }

pub draft-then : (x y z : Draft) → IsDraftLogged x y → IsDraftLogged y z → IsDraftLogged x z
draft-then x y z a b = record {
  added = a.added ++ b.added;
  list = b.list ∙ (ap (λ xs. xs ++ b.added) a.list ∙ append_assoc x.log.items a.added b.added);
  back = undone-append a.added b.added z.func ∙ (ap (all_undone a.added) b.back ∙ a.back);
  order = b.order;
}

pub tables-same : (r : EditRun) → KeepsTables r r
tables-same r = record { lanes = refl; flow = refl; rows = refl; aside = refl }

pub tables-then : (r s q : EditRun) → KeepsTables r s → KeepsTables s q → KeepsTables r q
tables-then r s q a b = record { lanes = b.lanes ∙ a.lanes; flow = b.flow ∙ a.flow; rows = b.rows ∙ a.rows; aside = b.aside ∙ a.aside }

-- edits that stand from the last to the first

pub turned-last : (xs ys : List CodeEdit) (e : CodeEdit) → ys ≡ xs ++ e ∷ [] → edits_of (reverse ys) ≡ edit_of e ∷ edits_of (reverse xs)
turned-last xs ys e h = ap (λ zs. edits_of (reverse zs)) h ∙ ap edits_of (reverse-append xs (e ∷ []))

pub turned-twice : (xs ys : List CodeEdit) → ys ≡ reverse xs → edits_of (reverse ys) ≡ edits_of xs
turned-twice xs ys h = ap (λ zs. edits_of (reverse zs)) h ∙ ap edits_of (reverse-reverse xs)
