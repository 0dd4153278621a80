use Rattle.std.proofs.Common.{[], ◌∷◌, ◌++◌, ◌∙◌, List, refl, sym, ap, subst}
use Rattle.mir_func.specs.Value.{Function, IsFunction}
use Rattle.instr_effects.specs.declared.lane_acts.LaneAct.{LaneAct}
use Rattle.instr_effects.specs.LaneActs.{is_once}
use Rattle.instr_effects.specs.Numbered.{number_in}
use Rattle.live_lanes.proofs.Raised.{on-ok}
use Rattle.edit_laws.specs.Edits.{replaced}
use Rattle.live_edits.specs.declared.notes.TouchedInstr.{TouchedInstr}
use Rattle.live_edits.specs.ActChanges.{AreChanged}
use Rattle.live_edits.specs.Noted.{TellLatest}
use Rattle.live_edits.specs.Runs.{AreActsAt}
use Rattle.live_edits.proofs.RunAside.{apart-more, tells-left, tells-own}
use Rattle.live_edits.proofs.RunEdits.{touched-kept, change-touches, no-change}
use Rattle.live_edits.proofs.RunTells.{change-tells, no-change-tells}
use Rattle.live_edits.proofs.RunPlaces.{replaced-function}
use Rattle.live_edits.proofs.edit_run.EditRun.do_replace.Goals as goal

pub returns-in_default-clause-done : goal.returns-in_default-clause-done
returns-in_default-clause-done c =
    let is = c.find.ensures.function in
    let t = c.args.target.now in
    let f = c.args.self.now.draft.func in
    let o = c.args.self.now.draft.order in
    let id = c.args.id in
    let op = c.args.op in
    let os = c.args.operands in
    let xs = c.args.self.now.touched.items in
    let num = number_in c.args.self.now.lanes in
    let gone = c.args.self.now.gone.keys in
    on-ok c.replace.result c.replace.ensures.replaced (λ h order keeps. record {
      func = (h order).func;
      order = (h order).order;
      function = subst (λ (g : Function). IsFunction g.blocks g.next_id) (sym (h order).func) (replaced-function f id op os is);
      gone = λ id. refl;
      touched = λ touched all aside. no-change t f o id op os is order num touched (c.in_default.ensures.place order);
      kept = λ y m. m;
      tells = λ spared apart tell. subst (λ (g : Function). TellLatest t g num gone xs) (sym (h order).func) (no-change-tells t f o id op os is order num gone xs (c.in_default.ensures.place order) tell);
      apart = λ h. h;
      lanes = refl;
      flow = refl;
      rows = refl;
      aside = refl;
    })

pub returns-clause-done : goal.returns-clause-done
returns-clause-done c = λ order keeps.
    let is = c.find.ensures.function in
    let found = c.in-Some.ensures.place order in
    let replaces = c.in_ok-replace.ensures.replaced order in
    let push = c.in_ok-push.ensures.items in
    let t = c.args.target.now in
    let f = c.args.self.now.draft.func in
    let o = c.args.self.now.draft.order in
    let id = c.args.id in
    let op = c.args.op in
    let os = c.args.operands in
    let p = c.in-Some.at.0 in
    let k = c.in-Some.at.1 in
    let xs = c.args.self.now.touched.items in
    let ys = c.push.new.self.items in
    let aside = c.args.self.now.aside.items in
    let x : TouchedInstr = record { id = id; block = p; acts = c.in_ok-acts.acts } in
    -- with what is noted at lanes whose rows were taken away too
    let w : TouchedInstr = record { id = id; block = p; acts = c.in_ok-changed.changed } in
    let num = number_in c.args.self.now.lanes in
    let gone = c.args.self.now.gone.keys in
    let out = c.in_ok-acts.ensures in
    let before = c.in_ok-before.before.items in
    let after = c.in_ok-after.after.items in
    let acts = c.in_ok-changed.changed.items in
    let changed : AreChanged before after acts =
    subst (λ (zs : List LaneAct). AreChanged zs after acts) c.as_slice.ensures.value
    (subst (λ (zs : List LaneAct). AreChanged c.as_slice.result.now zs acts) c.as_slice-2.ensures.value (c.in_ok-changed.ensures (ap is_once c.as_slice-2.ensures.value ∙ c.in_ok-after.ensures.once))) in
    let after-change : Function = replaced f id op os in
    let will : AreActsAt t after-change num p k after = subst (λ (g : Function). AreActsAt t g num p k after) replaces.func c.in_ok-after.ensures.told in
    record {
      func = replaces.func;
      order = replaces.order;
      function = subst (λ (g : Function). IsFunction g.blocks g.next_id) (sym replaces.func) (replaced-function f id op os is);
      gone = λ id. refl;
      touched = λ touched all taken. change-touches t f o id op os is order num touched c.replace-2.new.self.func p k before after acts replaces.func keeps found c.in_ok-before.ensures.told c.in_ok-after.ensures.told changed (tells-own aside acts xs ys x push out touched all taken);
      kept = touched-kept xs ys x push;
      tells = λ spared apart tell.
          subst (λ (g : Function). TellLatest t g num gone ys) (sym replaces.func)
          (subst (TellLatest t after-change num gone) (sym push)
          (tells-left aside w x refl refl out t after-change num gone xs apart
          (change-tells t f o id op os is order num gone p k before after found c.in_ok-before.ensures.told will spared xs (xs ++ w ∷ []) w refl refl refl changed tell)));
      apart = apart-more aside acts xs ys x push out;
      lanes = refl;
      flow = refl;
      rows = refl;
      aside = refl;
    }
