use Rattle.std.proofs.Common.{◌≡◌, ◌++◌, ◌∷◌, ◌∙◌, ℕ, List, [], map, refl, sym, ap, subst}
use Rattle.mir_meaning.specs.Paths.{Among, has}
use Rattle.instr_effects.specs.declared.lane_acts.LaneAct.{LaneAct}
use Rattle.instr_effects.specs.LaneActs.{no_act}
use Rattle.instr_effects.specs.Numbered.{number_in}
use Rattle.live_edits.specs.declared.notes.TouchedInstr.{TouchedInstr}
use Rattle.live_edits.specs.ActChanges.{act_lanes}
use Rattle.live_edits.specs.Noted.{TellLatest}
use Rattle.live_edits.proofs.ActChanges.{idle-lanes}
use Rattle.live_edits.proofs.RunAside.{apart-more, tells-left, tells-own}
use Rattle.live_edits.proofs.RunEdits.{touched-kept, erase-touches, no-erase}
use Rattle.live_edits.proofs.RunTells.{erase-tells, no-erase-tells}
use Rattle.live_edits.proofs.RunIds.{has-inserted}
use Rattle.live_edits.proofs.edit_run.EditRun.do_erase.Goals as goal

pub returns-in_default-clause-done : goal.returns-in_default-clause-done
returns-in_default-clause-done c = λ order.
    let t = c.args.target.now in
    let f = c.args.self.now.draft.func in
    let o = c.args.self.now.draft.order in
    let num = number_in c.args.self.now.lanes in
    let gone = c.args.self.now.gone.keys in
    let goes : (n : ℕ) → has n c.insert.new.self.keys ≡ has n (c.args.id ∷ gone) = λ n. ap (has n) c.in_ok-insert.ensures.keys ∙ has-inserted gone c.args.id n in
    let xs = c.args.self.now.touched.items in
    record {
      func = refl;
      order = order;
      function = c.find.ensures.function;
      gone = goes;
      touched = λ touched all aside. no-erase t f o c.args.id c.find.ensures.function order num touched (c.in_default.ensures.place order);
      kept = λ y m. m;
      tells = λ spared apart tell. no-erase-tells t f o c.args.id c.find.ensures.function order num gone c.insert.new.self.keys goes xs (c.in_default.ensures.place order) tell;
      apart = λ h. h;
      lanes = refl;
      flow = refl;
      rows = refl;
      aside = refl;
    }

pub returns-clause-done : goal.returns-clause-done
returns-clause-done c = λ order.
    let found = c.in-Some.ensures.place order in
    let push = c.in_ok-push.ensures.items in
    let t = c.args.target.now in
    let f = c.args.self.now.draft.func in
    let o = c.args.self.now.draft.order in
    let num = number_in c.args.self.now.lanes in
    let gone = c.args.self.now.gone.keys in
    let goes : (n : ℕ) → has n c.insert.new.self.keys ≡ has n (c.args.id ∷ gone) = λ n. ap (has n) c.in_ok-insert.ensures.keys ∙ has-inserted gone c.args.id n in
    let xs = c.args.self.now.touched.items in
    let ys = c.push.new.self.items in
    let aside = c.args.self.now.aside.items in
    let x : TouchedInstr = record { id = c.args.id; block = c.in-Some.at.0; acts = c.in_ok-acts.acts } in
    -- with what is noted at lanes whose rows were taken away too
    let w : TouchedInstr = record { id = c.args.id; block = c.in-Some.at.0; acts = c.in_ok-idle.idle } in
    let idle = c.in_ok-idle.idle.items in
    let out = c.in_ok-acts.ensures in
    let before = c.in_ok-before.before.items in
    let acts : idle ≡ map (λ (a : LaneAct). no_act a.lane) before = c.in_ok-idle.ensures ∙ ap (λ (zs : List LaneAct). map (λ (a : LaneAct). no_act a.lane) zs) c.as_slice.ensures.value in
    let lanes : act_lanes idle ≡ act_lanes before = ap act_lanes acts ∙ idle-lanes before in
    record {
      func = refl;
      order = order;
      function = c.find.ensures.function;
      gone = goes;
      touched = λ touched all taken. erase-touches t f o c.args.id c.find.ensures.function order num touched c.in-Some.at.0 c.in-Some.at.1 before found c.in_ok-before.ensures.told (λ l m. tells-own aside idle xs ys x push out touched all taken l (subst (Among l) (sym lanes) m));
      kept = touched-kept xs ys x push;
      tells = λ spared apart tell.
          subst (TellLatest t f num c.insert.new.self.keys) (sym push)
          (tells-left aside w x refl refl out t f num c.insert.new.self.keys xs apart
          (erase-tells t f o c.args.id c.find.ensures.function order num gone c.insert.new.self.keys goes c.in-Some.at.0 c.in-Some.at.1 before found c.in_ok-before.ensures.told xs (xs ++ w ∷ []) w refl refl refl acts tell));
      apart = apart-more aside idle xs ys x push out;
      lanes = refl;
      flow = refl;
      rows = refl;
      aside = refl;
    }
