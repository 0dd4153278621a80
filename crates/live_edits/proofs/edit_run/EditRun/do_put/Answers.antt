use Rattle.std.proofs.Common.{◌∙◌, ◌++◌, ◌∷◌, [], refl, sym, subst}
use Rattle.mir_func.specs.Edits.{inserted}
use Rattle.mir_func.specs.Value.{Function}
use Rattle.instr_effects.specs.Numbered.{number_in}
use Rattle.live_edits.specs.declared.notes.TouchedInstr.{TouchedInstr}
use Rattle.live_edits.specs.Noted.{TellLatest}
use Rattle.live_edits.specs.Runs.{AreActsOf}
use Rattle.live_edits.proofs.RunAside.{apart-more, tells-left, tells-own}
use Rattle.live_edits.proofs.RunEdits.{touched-kept, put-touches}
use Rattle.live_edits.proofs.RunTells.{put-tells}
use Rattle.live_edits.proofs.edit_run.EditRun.do_put.Goals as goal

pub returns-clause-done : goal.returns-clause-done
returns-clause-done c = λ order there.
    let put = c.in_ok-block.ensures.put order there in
    let push = c.in_ok-push.ensures.items in
    let t = c.args.target.now in
    let f = c.args.self.now.draft.func in
    let gap = c.args.gap in
    let xs = c.args.self.now.touched.items in
    let ys = c.push.new.self.items in
    let aside = c.args.self.now.aside.items in
    let x : TouchedInstr = record { id = c.in_ok-block.id; block = c.in_ok-block.block; acts = c.in_ok-acts.acts } in
    -- with what is noted at lanes whose rows were taken away too
    let w : TouchedInstr = record { id = c.in_ok-block.id; block = c.in_ok-block.block; acts = c.in_ok-named.named } in
    let num = number_in c.args.self.now.lanes in
    let gone = c.args.self.now.gone.keys in
    let named = c.in_ok-named.named.items in
    let out = c.in_ok-acts.ensures in
    let after : Function = inserted f gap c.args.op c.args.operands in
    let are : AreActsOf t after num f.next_id named = subst (λ n. AreActsOf t after num n named) put.id_is (subst (λ (g : Function). AreActsOf t g num c.in_ok-block.id named) put.func (c.in_ok-named.ensures.told put.order)) in
    record {
      func = put.func;
      order = put.order;
      function = c.acts_of.ensures.function;
      gone = λ id. refl;
      touched = λ touched all taken. put-touches t f gap c.args.op c.args.operands there.block num touched named are (λ l m. (λ u. touched l (sym put.position_is u) (sym put.id_is u)) ∙ tells-own aside named xs ys x push out touched all taken l m);
      kept = touched-kept xs ys x push;
      tells = λ spared apart tell.
          subst (λ (g : Function). TellLatest t g num gone ys) (sym put.func)
          (subst (TellLatest t after num gone) (sym push)
          (tells-left aside w x refl refl out t after num gone xs apart (put-tells t f gap c.args.op c.args.operands there.block num gone xs (xs ++ w ∷ []) w refl put.id_is put.position_is are c.in_ok-named.ensures.once spared tell)));
      apart = apart-more aside named xs ys x push out;
      lanes = refl;
      flow = refl;
      rows = refl;
      aside = refl;
    }
