-- A function over edits in which erased instructions still stand, over numbered lanes.
use Rattle.std.proofs.Common.{◌≡◌, ◌∷◌, ◌++◌, ◌∙◌, ℕ, zero, suc, Bool, true, false, cond, List, [], Option, Some, None, refl, sym, ap, subst, map, flat_map, eqb-true}
use Rattle.std.specs.Prelude.{nat_eq, slice_get}
use Rattle.target_base.specs.declared.types.OpId.{OpId}
use Rattle.target_base.specs.declared.types.Target.{Target}
use Rattle.meaning.specs.Live.{Among as Member, here, there}
use Rattle.mir_func.specs.declared.func.Block.{Block}
use Rattle.mir_func.specs.declared.func.Instr.{Instr}
use Rattle.mir_func.specs.declared.func.Operand.{Operand}
use Rattle.mir_func.specs.Value.{Function}
use Rattle.mir_func.specs.Edits.{block_place, changed_in, inserted, made, put, update}
use Rattle.mir_meaning.specs.declared.writing.LaneDef.{LaneDef}
use Rattle.mir_meaning.specs.Paths.{Code, Step, steps_of, has, is_present, writing_of}
use Rattle.instr_effects.specs.Steps.{Numbering}
use Rattle.live_lanes.specs.Coded.{Doing, code_of, lanes_at}
use Rattle.live_lanes.specs.Doing.{doing_of}
use Rattle.live_lanes.specs.Ordered.{place_of}
use Rattle.live_laws.proofs.Effects.Blocks.{slice-member}
use Rattle.edit_laws.specs.Codes.{step_in, NamesTold}
use Rattle.edit_laws.specs.Deferred.{deferred, gone_after, all_deferred, all_gone, nothing, idle, idle_code, TouchesEdits, DeferredLaw, AllDeferredLaw}
use Rattle.edit_laws.specs.Edits.{Edit, Put, Replace, Erase, replaced, with_op, IsPlain, StaysPlain}
use Rattle.edit_laws.specs.Reasons.{Touched, IsLike, IsNew, AreEdited, edit_none, edit_stays, edit_comes, IsEditOf}
use Rattle.edit_laws.proofs.Aligned.{AreInstrs, no_instrs, instr_stays, instr_changes, instr_goes, instr_comes, AreBlocks, block_stays}
use Rattle.edit_laws.proofs.Codes.{doing-same, no-end}
use Rattle.edit_laws.proofs.Edited.{Never, NeverBoth}
use Rattle.edit_laws.proofs.Placed.{BothAt, ComesInto, GoesFrom, blocks-placed, put-blocks, Becomes, change-blocks}
use Rattle.edit_laws.proofs.SideBySide.{AreSideBySide, no_more, one_more, behind, behind-none, codes-beside, done_by, read_at_ends}

pub none-written : (q : Option LaneDef) → is_present q ≡ false → q ≡ None
none-written None h = refl
none-written (Some w) h = absurd (let z : true ≡ false = h in cc)

-- instructions that aren't edited, and edits one after the other

module _ (touched : ℕ → ℕ → Bool) where
  like-itself : (s : Step) → IsLike touched s s
  like-itself s = record { id = refl; leaves = refl; used = λ l o. refl; writing = λ l o. refl }

  unedited : (ss : List Step) → AreEdited touched ss ss
  unedited [] = edit_none
  unedited (s ∷ ss) = edit_stays (like-itself s) (unedited ss)

  like-then : (s r x : Step) → IsLike touched s r → IsLike touched r x → IsLike touched s x
  like-then s r x h k = record {
    id = h.id ∙ k.id;
    leaves = h.leaves ∙ k.leaves;
    used = λ l o. h.used l (ap (touched l) k.id ∙ o) ∙ k.used l o;
    writing = λ l o. h.writing l (ap (touched l) k.id ∙ o) ∙ k.writing l o;
  }

  new-then : (r x : Step) → IsNew touched r → IsLike touched r x → IsNew touched x
  new-then r x h k = record {
    leaves = sym k.leaves ∙ h.leaves;
    unused = λ l o. sym (k.used l o) ∙ h.unused l (ap (touched l) k.id ∙ o);
    unwritten = λ l o. sym (ap is_present (k.writing l o)) ∙ h.unwritten l (ap (touched l) k.id ∙ o);
  }

  stays-then : {r x : Step} {ss rs us : List Step} → IsLike touched r x → ((vs : List Step) → AreEdited touched vs rs → AreEdited touched vs us) → AreEdited touched ss (r ∷ rs) → AreEdited touched ss (x ∷ us)
  stays-then {r = r} {x = x} k on (edit_stays {s = s} {ss = vs} h a) = edit_stays (like-then s r x h k) (on vs a)
  stays-then {r = r} {x = x} k on (edit_comes {ss = vs} h a) = edit_comes (new-then r x h k) (on vs a)

  edited-then : {rs us : List Step} → AreEdited touched rs us → (ss : List Step) → AreEdited touched ss rs → AreEdited touched ss us
  edited-then edit_none ss a = a
  edited-then (edit_stays k b) ss a = stays-then k (λ vs c. edited-then b vs c) a
  edited-then (edit_comes k b) ss a = edit_comes k (edited-then b ss a)

edits-then : (touched : Touched) (old mid new : Code) → IsEditOf touched old mid → IsEditOf touched mid new → IsEditOf touched old new
edits-then touched old mid new x y = record {
  steps = λ b. edited-then (λ l i. touched l b i) (y.steps b) (steps_of old b) (x.steps b);
  last = λ b. x.last b ∙ y.last b;
  exits = λ b. x.exits b ∙ y.exits b;
}

-- the instructions of a block, of which some come and some change

module _ (touched : ℕ → ℕ → Bool) (d : Doing) (Goes Comes : Instr → Type 0) (Both : Instr → Instr → Type 0) where
  pub record IsFit : Type 0 where
    pub goes : (i : Instr) → Goes i → ⊥
    pub comes : (j : Instr) → Comes j → IsNew touched (d j).0 × ((d j).1 ≡ [])
    pub both : (i j : Instr) → Both i j → IsLike touched (d i).0 (d j).0 × ((d i).1 ≡ (d j).1)

  module _ (fit : IsFit) where
    steps-edited : {is js : List Instr} → AreInstrs Goes Comes Both is js → AreEdited touched (done_by d is) (done_by d js)
    steps-edited no_instrs = edit_none
    steps-edited (instr_stays {i = i} a) = edit_stays (like-itself touched (d i).0) (steps-edited a)
    steps-edited (instr_changes {i = i} {j = j} h a) = edit_stays (fit.both i j h).0 (steps-edited a)
    steps-edited (instr_goes {i = i} h a) = absurd (fit.goes i h)
    steps-edited (instr_comes {j = j} h a) = edit_comes (fit.comes j h).0 (steps-edited a)

    ends-same : (place : ℕ → Option ℕ) (b : ℕ) {is js : List Instr} → AreInstrs Goes Comes Both is js → read_at_ends d place b is ≡ read_at_ends d place b js
    ends-same place b no_instrs = refl
    ends-same place b (instr_stays {i = i} a) = λ k. flat_map (lanes_at place b) (d i).1 ++ ends-same place b a k
    ends-same place b (instr_changes {i = i} {j = j} h a) = λ k. flat_map (lanes_at place b) ((fit.both i j h).1 k) ++ ends-same place b a k
    ends-same place b (instr_goes {i = i} h a) = absurd (fit.goes i h)
    ends-same place b (instr_comes {j = j} {js = js} h a) = ends-same place b a ∙ sym (λ k. flat_map (lanes_at place b) ((fit.comes j h).1 k) ++ read_at_ends d place b js)

pub first-instrs : {Goes Comes : Instr → Type 0} {Both : Instr → Instr → Type 0} {b c : Block} {bs cs : List Block} → AreBlocks Goes Comes Both (b ∷ bs) (c ∷ cs) → AreInstrs Goes Comes Both b.instrs c.instrs
first-instrs (block_stays number successors a rest) = a

only : {x y : Block} → Member x (y ∷ []) → x ≡ y
only here = refl
only (there m) = elim m [ ]

-- each edit

module _ (touched : Touched) (t : Target) (f : Function) (num : Numbering) (gone : List ℕ) where
  abbrev doing : Doing
  doing = doing_of t f num

  abbrev now : Doing
  now = idle gone (doing_of t f num)

  abbrev Edits : ℕ → List Step → List Step → Type 0
  Edits n ss rs = AreEdited (λ l i. touched l n i) ss rs

  same-side : (n : ℕ) (bs : List Block) → AreSideBySide Edits now now n bs bs
  same-side n [] = no_more
  same-side n (b ∷ bs) = one_more refl refl (unedited (λ l i. touched l n i) (done_by now b.instrs)) (λ place k. refl) (same-side (suc n) bs)

  -- one comes

  module _ (x : Instr) (before : Option ℕ) (plain : IsPlain t x) where
    abbrev IsOne : Instr → Type 0
    IsOne j = j ≡ x

    new-step : (n : ℕ) → NamesTold (λ l. touched l n x.id) (step_in t f num x) → IsNew (λ l i. touched l n i) (now x).0 × ((now x).1 ≡ [])
    new-step n names = go (has x.id gone)
      where
        go : (u : Bool) → IsNew (λ l i. touched l n i) (cond u (nothing x.id) (doing x)).0 × ((cond u (nothing x.id) (doing x)).1 ≡ [])
        go true = (record { leaves = refl; unused = λ l o. refl; unwritten = λ l o. refl }, refl)
        go false = (record { leaves = plain.1; unused = names.unused; unwritten = names.unwritten }, no-end t f num x plain.0)

    put-fit : (n : ℕ) → NamesTold (λ l. touched l n x.id) (step_in t f num x) → IsFit (λ l i. touched l n i) now Never IsOne NeverBoth
    put-fit n names = record {
      goes = λ i z. z;
      comes = λ j e. subst (λ y. IsNew (λ l i. touched l n i) (now y).0 × ((now y).1 ≡ [])) (sym e) (new-step n names);
      both = λ i j z. absurd z;
    }

    put-side : (n k : ℕ) (bs : List Block) → NamesTold (λ l. touched l (behind n k) x.id) (step_in t f num x) → AreSideBySide Edits now now n bs (update k (put before x) bs)
    put-side n k [] names = no_more
    put-side n zero (b ∷ bs) names =
        let a : AreInstrs Never IsOne NeverBoth b.instrs (put before x b).instrs = first-instrs (put-blocks Never IsOne NeverBoth x refl before zero (b ∷ [])) in
        let fit : IsFit (λ l i. touched l n i) now Never IsOne NeverBoth = put-fit n names in
        one_more refl refl (steps-edited (λ l i. touched l n i) now Never IsOne NeverBoth fit a) (λ place k. ends-same (λ l i. touched l n i) now Never IsOne NeverBoth fit place k a) (same-side (suc n) bs)
    put-side n (suc k) (b ∷ bs) names = one_more refl refl (unedited (λ l i. touched l n i) (done_by now b.instrs)) (λ place k. refl) (put-side (suc n) k bs names)

  -- one changes

  module _ (id : ℕ) (op : OpId) (os : List Operand) where
    abbrev Turns : Instr → Instr → Type 0
    Turns = Becomes Never Never id (with_op op os)

    pub record IsChanged (n : ℕ) (i : Instr) : Type 0 where
      pub plain : StaysPlain t i (with_op op os i)
      pub like : IsLike (λ l k. touched l n k) (step_in t f num i) (step_in t f num (with_op op os i))

    changed-step : (n : ℕ) (i : Instr) → IsChanged n i → IsLike (λ l k. touched l n k) (now i).0 (now (with_op op os i)).0 × ((now i).1 ≡ (now (with_op op os i)).1)
    changed-step n i c = go (has i.id gone)
      where
        go : (u : Bool) → IsLike (λ l k. touched l n k) (cond u (nothing i.id) (doing i)).0 (cond u (nothing i.id) (doing (with_op op os i))).0 × ((cond u (nothing i.id) (doing i)).1 ≡ (cond u (nothing i.id) (doing (with_op op os i))).1)
        go true = (like-itself (λ l k. touched l n k) (nothing i.id).0, refl)
        go false = (c.like, no-end t f num i c.plain.0 ∙ sym (no-end t f num (with_op op os i) c.plain.1))

    abbrev BothIn : Block → Instr → Instr → Type 0
    BothIn b = BothAt Never Never Turns (b ∷ []) (changed_in id (with_op op os) b ∷ [])

    abbrev GoesIn : Block → Instr → Type 0
    GoesIn b = GoesFrom Never Never Turns (b ∷ [])

    abbrev ComesIn : Block → Instr → Type 0
    ComesIn b = ComesInto Never Never Turns (changed_in id (with_op op os) b ∷ [])

    change-both : (n : ℕ) (b : Block) → ((i : Instr) → Member i b.instrs → i.id ≡ id → IsChanged n i) → (i j : Instr) → BothIn b i j → IsLike (λ l k. touched l n k) (now i).0 (now j).0 × ((now i).1 ≡ (now j).1)
    change-both n b c i j z =
        let m : Member i b.instrs = subst (λ (y : Block). Member i y.instrs) (only z.2) z.4 in
        subst (λ y. IsLike (λ l k. touched l n k) (now i).0 (now y).0 × ((now i).1 ≡ (now y).1)) (sym z.6.1) (changed-step n i (c i m z.6.0))

    change-fit : (n : ℕ) (b : Block) → ((i : Instr) → Member i b.instrs → i.id ≡ id → IsChanged n i) → IsFit (λ l k. touched l n k) now (GoesIn b) (ComesIn b) (BothIn b)
    change-fit n b c = record { goes = λ i z. z.3; comes = λ j z. absurd z.3; both = change-both n b c }

    change-side : (n : ℕ) (bs : List Block) → ((k : ℕ) (b : Block) (i : Instr) → slice_get bs k ≡ Some b → Member i b.instrs → i.id ≡ id → IsChanged (behind n k) i) → AreSideBySide Edits now now n bs (map (changed_in id (with_op op os)) bs)
    change-side n [] c = no_more
    change-side n (b ∷ bs) c =
        let a : AreInstrs (GoesIn b) (ComesIn b) (BothIn b) b.instrs (changed_in id (with_op op os) b).instrs = first-instrs (blocks-placed Never Never Turns (change-blocks Never Never id (with_op op os) (b ∷ []))) in
        let fit : IsFit (λ l k. touched l n k) now (GoesIn b) (ComesIn b) (BothIn b) = change-fit n b (λ i m o. c zero b i refl m o) in
        one_more refl refl (steps-edited (λ l k. touched l n k) now (GoesIn b) (ComesIn b) (BothIn b) fit a) (λ place k. ends-same (λ l k. touched l n k) now (GoesIn b) (ComesIn b) (BothIn b) fit place k a)
        (change-side (suc n) bs (λ k x i e m o. c (suc k) x i e m o))

  -- one is erased

  module _ (id : ℕ) where
    abbrev then : Doing
    then = idle (id ∷ gone) (doing_of t f num)

    pub record IsErased (n : ℕ) (i : Instr) : Type 0 where
      pub plain : IsPlain t i
      pub names : NamesTold (λ l. touched l n i.id) (step_in t f num i)

    erased-step : (n : ℕ) (i : Instr) → (i.id ≡ id → IsErased n i) → IsLike (λ l k. touched l n k) (now i).0 (then i).0 × ((now i).1 ≡ (then i).1)
    erased-step n i c = go (nat_eq id i.id) refl (has i.id gone)
      where
        go : (v : Bool) → nat_eq id i.id ≡ v → (u : Bool) → IsLike (λ l k. touched l n k) (cond u (nothing i.id) (doing i)).0 (cond (cond v true u) (nothing i.id) (doing i)).0 × ((cond u (nothing i.id) (doing i)).1 ≡ (cond (cond v true u) (nothing i.id) (doing i)).1)
        go false e u = (like-itself (λ l k. touched l n k) (cond u (nothing i.id) (doing i)).0, refl)
        go true e true = (like-itself (λ l k. touched l n k) (nothing i.id).0, refl)
        go true e false =
            let h : IsErased n i = c (sym (eqb-true id i.id e)) in
            (record { id = refl; leaves = h.plain.1; used = h.names.unused; writing = λ l o. none-written (writing_of l (doing i).0.writes) (h.names.unwritten l o) }, no-end t f num i h.plain.0)

    idle-steps : (n : ℕ) (is : List Instr) → ((i : Instr) → Member i is → i.id ≡ id → IsErased n i) → AreEdited (λ l k. touched l n k) (done_by now is) (done_by then is)
    idle-steps n [] c = edit_none
    idle-steps n (i ∷ is) c = edit_stays (erased-step n i (c i here)).0 (idle-steps n is (λ j m. c j (there m)))

    idle-ends : (n : ℕ) (place : ℕ → Option ℕ) (k : ℕ) (is : List Instr) → ((i : Instr) → Member i is → i.id ≡ id → IsErased n i) → read_at_ends now place k is ≡ read_at_ends then place k is
    idle-ends n place k [] c = refl
    idle-ends n place k (i ∷ is) c = λ u. flat_map (lanes_at place k) ((erased-step n i (c i here)).1 u) ++ idle-ends n place k is (λ j m. c j (there m)) u

    erase-side : (n : ℕ) (bs : List Block) → ((k : ℕ) (b : Block) (i : Instr) → slice_get bs k ≡ Some b → Member i b.instrs → i.id ≡ id → IsErased (behind n k) i) → AreSideBySide Edits now then n bs bs
    erase-side n [] c = no_more
    erase-side n (b ∷ bs) c =
        one_more refl refl (idle-steps n b.instrs (λ i m o. c zero b i refl m o)) (λ place k. idle-ends n place k b.instrs (λ i m o. c zero b i refl m o)) (erase-side (suc n) bs (λ k x i e m o. c (suc k) x i e m o))

  is-edit : (d d' : Doing) (bs cs : List Block) → AreSideBySide Edits d d' 0 bs cs → IsEditOf touched (code_of d (λ n. place_of n bs) bs) (code_of d' (λ n. place_of n cs) cs)
  is-edit d d' bs cs s = record {
    steps = (codes-beside Edits (λ n. edit_none) d d' bs cs s).steps;
    last = (codes-beside Edits (λ n. edit_none) d d' bs cs s).last;
    exits = (codes-beside Edits (λ n. edit_none) d d' bs cs s).exits;
  }

  -- what instructions do depends on the function by the classes of its ranges alone
  with-function : (g : Function) → f.classes ≡ g.classes → IsEditOf touched (idle_code t f num gone) (code_of now (λ n. place_of n g.blocks) g.blocks) → IsEditOf touched (idle_code t f num gone) (idle_code t g num gone)
  with-function g same h =
      let path : doing_of t f num ≡ doing_of t g num = λ k. λ i. doing-same t f g same num i k in
      subst (λ (d : Doing). IsEditOf touched (idle_code t f num gone) (code_of (idle gone d) (λ n. place_of n g.blocks) g.blocks)) path h

pub deferred-law : DeferredLaw
deferred-law touched t f num gone (Put gap op os) keeps told =
    let place = block_place gap.block f.blocks in
    let x : Instr = made f.next_id op os in
    let names : NamesTold (λ l. touched l (behind 0 place) f.next_id) (step_in t f num x) = subst (λ k. NamesTold (λ l. touched l k f.next_id) (step_in t f num x)) (sym (behind-none place)) told in
    let side = put-side touched t f num gone x gap.before keeps 0 place f.blocks names in
    with-function touched t f num gone (inserted f gap op os) refl (is-edit touched t f num gone (idle gone (doing_of t f num)) (idle gone (doing_of t f num)) f.blocks (inserted f gap op os).blocks side)
deferred-law touched t f num gone (Replace id op os) keeps told =
    let side = change-side touched t f num gone id op os 0 f.blocks (λ k b i e m o. record {
      plain = keeps b i (record { block = slice-member f.blocks k b e; instr = m; named = o });
      like = subst (λ n. IsLike (λ l j. touched l n j) (step_in t f num i) (step_in t f num (with_op op os i))) (sym (behind-none k)) (told k b i e m o);
    }) in
    with-function touched t f num gone (replaced f id op os) refl (is-edit touched t f num gone (idle gone (doing_of t f num)) (idle gone (doing_of t f num)) f.blocks (replaced f id op os).blocks side)
deferred-law touched t f num gone (Erase id) keeps told =
    is-edit touched t f num gone (idle gone (doing_of t f num)) (idle (id ∷ gone) (doing_of t f num)) f.blocks f.blocks
    (erase-side touched t f num gone id 0 f.blocks (λ k b i e m o. record {
      plain = keeps b i (record { block = slice-member f.blocks k b e; instr = m; named = o });
      names = subst (λ n. NamesTold (λ l. touched l n i.id) (step_in t f num i)) (sym (behind-none k)) (told k b i e m o);
    }))

no-edit : (touched : Touched) (code : Code) → IsEditOf touched code code
no-edit touched code = record { steps = λ b. unedited (λ l i. touched l b i) (steps_of code b); last = λ b. refl; exits = λ b. refl }

all-from : (touched : Touched) (t : Target) (num : Numbering) (es : List Edit) (f : Function) (gone : List ℕ) → TouchesEdits touched t f num es → IsEditOf touched (idle_code t f num gone) (idle_code t (all_deferred f es) num (all_gone gone es))
all-from touched t num [] f gone told = no-edit touched (idle_code t f num gone)
all-from touched t num (e ∷ es) f gone told =
    edits-then touched (idle_code t f num gone) (idle_code t (deferred f e) num (gone_after gone e)) (idle_code t (all_deferred (deferred f e) es) num (all_gone (gone_after gone e) es))
    (deferred-law touched t f num gone e told.0 told.1) (all-from touched t num es (deferred f e) (gone_after gone e) told.2)

pub all-deferred-law : AllDeferredLaw
all-deferred-law touched t f num es told = all-from touched t num es f [] told
