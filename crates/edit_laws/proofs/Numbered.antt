-- What an edit leaves of a function's instructions one by one.
use Rattle.std.proofs.Common.{◌≡◌, ◌∷◌, ◌∙◌, ℕ, Bool, true, false, cond, List, [], refl, sym, ap, subst, eqb-true}
use Rattle.std.specs.Prelude.{nat_eq}
use Rattle.target_base.specs.declared.types.OpId.{OpId}
use Rattle.target_base.specs.declared.types.Target.{Target}
use Rattle.meaning.specs.Live.{Among as Member, here, there}
use Rattle.mir_func.specs.declared.func.Block.{Block}
use Rattle.mir_func.specs.declared.func.Gap.{Gap}
use Rattle.mir_func.specs.declared.func.Instr.{Instr}
use Rattle.mir_func.specs.declared.func.Operand.{Operand}
use Rattle.mir_func.specs.Value.{Function}
use Rattle.mir_func.specs.Edits.{block_place, deleted, inserted, made}
use Rattle.mir_meaning.specs.Paths.{has}
use Rattle.instr_effects.specs.declared.lanes.LaneTable.{LaneTable}
use Rattle.instr_effects.specs.Numbered.{NumbersAll, class_counts}
use Rattle.instr_effects.specs.Steps.{Numbering}
use Rattle.live_laws.proofs.Effects.Blocks.{member-slice, slice-member}
use Rattle.edit_laws.specs.Deferred.{deferred, all_deferred, all_deleted, all_gone, gone_after, TouchesEdits}
use Rattle.edit_laws.specs.Edits.{Edit, Put, Replace, Erase, edited, replaced, with_op, IsPlain, KeepsWays}
use Rattle.edit_laws.specs.Numbered.{NamesSlot, NumbersEdit, NumbersEditLaw, ErasedPlainLaw}
use Rattle.edit_laws.specs.Reasons.{Touched}
use Rattle.edit_laws.proofs.Aligned.{AreInstrs, no_instrs, instr_stays, instr_changes, instr_goes, instr_comes, AreBlocks, no_blocks, block_stays}
use Rattle.edit_laws.proofs.Edited.{Never, NeverBoth}
use Rattle.edit_laws.proofs.Placed.{BothAt, ComesInto, GoesFrom, blocks-placed, put-blocks, Named, erase-blocks, Becomes, change-blocks}

-- what holds of all instructions, of those that come, and of what changed ones become

abbrev AllIn : (Instr → Type 0) → List Instr → Type 0
AllIn P is = (i : Instr) → Member i is → P i

abbrev pub AllOf : (Instr → Type 0) → List Block → Type 0
AllOf P bs = (b : Block) (i : Instr) → Member b bs → Member i b.instrs → P i

module _ (P : Instr → Type 0) (Goes Comes : Instr → Type 0) (Both : Instr → Instr → Type 0) (comes : (j : Instr) → Comes j → P j) (both : (i j : Instr) → Both i j → P j) where
  instrs-keep : {is js : List Instr} → AreInstrs Goes Comes Both is js → AllIn P is → AllIn P js
  instrs-keep no_instrs h j m = elim m [ ]
  instrs-keep (instr_stays {i = i} a) h j here = h i here
  instrs-keep (instr_stays a) h j (there m) = instrs-keep a (λ k n. h k (there n)) j m
  instrs-keep (instr_changes {i = i} {j = k} z a) h j here = both i k z
  instrs-keep (instr_changes z a) h j (there m) = instrs-keep a (λ k n. h k (there n)) j m
  instrs-keep (instr_goes z a) h j m = instrs-keep a (λ k n. h k (there n)) j m
  instrs-keep (instr_comes {j = k} z a) h j here = comes k z
  instrs-keep (instr_comes z a) h j (there m) = instrs-keep a h j m

  blocks-keep : {bs cs : List Block} → AreBlocks Goes Comes Both bs cs → AllOf P bs → AllOf P cs
  blocks-keep no_blocks h c j m n = elim m [ ]
  blocks-keep (block_stays {b = b} number successors a rest) h c j here n = instrs-keep a (λ i o. h b i here o) j n
  blocks-keep (block_stays number successors a rest) h c j (there m) n = blocks-keep rest (λ d i o p. h d i (there o) p) c j m n

-- each edit

module _ (P : Instr → Type 0) (f : Function) (all : AllOf P f.blocks) where
  put-keeps : (gap : Gap) (op : OpId) (os : List Operand) → P (made f.next_id op os) → AllOf P (inserted f gap op os).blocks
  put-keeps gap op os new =
      blocks-keep P Never (λ j. j ≡ made f.next_id op os) NeverBoth (λ j e. subst P (sym e) new) (λ i j z. absurd z)
      (put-blocks Never (λ j. j ≡ made f.next_id op os) NeverBoth (made f.next_id op os) refl gap.before (block_place gap.block f.blocks) f.blocks) all

  change-keeps : (id : ℕ) (op : OpId) (os : List Operand) → ((b : Block) (i : Instr) → Member b f.blocks → Member i b.instrs → i.id ≡ id → P (with_op op os i)) → AllOf P (replaced f id op os).blocks
  change-keeps id op os new =
      blocks-keep P (GoesFrom Never Never (Becomes Never Never id (with_op op os)) f.blocks) (ComesInto Never Never (Becomes Never Never id (with_op op os)) (replaced f id op os).blocks) (BothAt Never Never (Becomes Never Never id (with_op op os)) f.blocks (replaced f id op os).blocks)
      (λ j z. absurd z.3) (λ i j z. subst P (sym z.6.1) (new z.0 i z.2 z.4 z.6.0))
      (blocks-placed Never Never (Becomes Never Never id (with_op op os)) (change-blocks Never Never id (with_op op os) f.blocks)) all

  cut-keeps : (id : ℕ) → AllOf P (deleted f id).blocks
  cut-keeps id = blocks-keep P (Named Never NeverBoth id) Never NeverBoth (λ j z. absurd z) (λ i j z. absurd z) (erase-blocks Never NeverBoth id f.blocks) all

-- the numbers of slots

module _ (t : Target) (f : Function) (tab : LaneTable) (numbered : NumbersAll t f tab) where
  abbrev Fits : Instr → Type 0
  Fits i = NamesSlot tab i.operands

  all-fit : AllOf Fits f.blocks
  all-fit b i m n s e =
      let k = member-slice b f.blocks m in
      let j = member-slice i b.instrs n in
      numbered.slots k.0 b k.1 j.0 i s j.1 e

  edited-fit : (e : Edit) → NumbersEdit tab e → AllOf Fits (edited f e).blocks
  edited-fit (Put gap op os) h = put-keeps Fits f all-fit gap op os h
  edited-fit (Replace id op os) h = change-keeps Fits f all-fit id op os (λ b i m n o. h)
  edited-fit (Erase id) h = cut-keeps Fits f all-fit id

  with-blocks : (g : Function) → f.classes ≡ g.classes → AllOf Fits g.blocks → NumbersAll t g tab
  with-blocks g same fit = record {
    table = numbered.table;
    reserved = numbered.reserved;
    ranges = numbered.ranges ∙ ap (class_counts t) same;
    slots = λ k b d j i s e o. fit b i (slice-member g.blocks k b d) (slice-member b.instrs j i e) s o;
  }

classes-same : (f : Function) (e : Edit) → f.classes ≡ (edited f e).classes
classes-same f (Put gap op os) = refl
classes-same f (Replace id op os) = refl
classes-same f (Erase id) = refl

pub numbers-edit-law : NumbersEditLaw
numbers-edit-law t f e tab numbered h = with-blocks t f tab numbered (edited f e) (classes-same f e) (edited-fit t f tab numbered e h)

-- erased instructions are plain

module _ (touched : Touched) (t : Target) (num : Numbering) where
  abbrev PlainIf : List ℕ → Instr → Type 0
  PlainIf gone i = has i.id gone ≡ true → IsPlain t i

  erase-plain : (f : Function) (gone : List ℕ) (id : ℕ) → KeepsWays t f (Erase id) → AllOf (PlainIf gone) f.blocks → AllOf (PlainIf (id ∷ gone)) f.blocks
  erase-plain f gone id keeps all b i m n h = go (nat_eq id i.id) refl h
    where
      go : (u : Bool) → nat_eq id i.id ≡ u → cond u true (has i.id gone) ≡ true → IsPlain t i
      go true e k = keeps b i (record { block = m; instr = n; named = sym (eqb-true id i.id e) })
      go false e k = all b i m n k

  deferred-plain : (f : Function) (gone : List ℕ) (e : Edit) → KeepsWays t f e → AllOf (PlainIf gone) f.blocks → AllOf (PlainIf (gone_after gone e)) (deferred f e).blocks
  deferred-plain f gone (Put gap op os) keeps all = put-keeps (PlainIf gone) f all gap op os (λ h. keeps)
  deferred-plain f gone (Replace id op os) keeps all =
      change-keeps (PlainIf gone) f all id op os (λ b i m n o h.
      let k = keeps b i (record { block = m; instr = n; named = o }) in
      (k.1, sym k.2 ∙ (all b i m n h).1))
  deferred-plain f gone (Erase id) keeps all = erase-plain f gone id keeps all

  all-plain : (es : List Edit) (f : Function) (gone : List ℕ) → TouchesEdits touched t f num es → AllOf (PlainIf gone) f.blocks → AllOf (PlainIf (all_gone gone es)) (all_deferred f es).blocks
  all-plain [] f gone told all = all
  all-plain (e ∷ es) f gone told all = all-plain es (deferred f e) (gone_after gone e) told.2 (deferred-plain f gone e told.0 all)

  deleted-plain : (gone : List ℕ) (f : Function) (ids : List ℕ) → AllOf (PlainIf gone) f.blocks → AllOf (PlainIf gone) (all_deleted f ids).blocks
  deleted-plain gone f [] all = all
  deleted-plain gone f (id ∷ ids) all = cut-keeps (PlainIf gone) (all_deleted f ids) (deleted-plain gone f ids all) id

pub erased-plain-law : ErasedPlainLaw
erased-plain-law touched t f num es told id h ids b i stands =
    let none : AllOf (PlainIf touched t num []) f.blocks = λ c j m n e. absurd (let z : false ≡ true = e in cc) in
    let all : AllOf (PlainIf touched t num (all_gone [] es)) (all_deferred f es).blocks = all-plain touched t num es f [] told none in
    deleted-plain touched t num (all_gone [] es) (all_deferred f es) ids all b i stands.block stands.instr (ap (λ k. has k (all_gone [] es)) stands.named ∙ h)
