-- A function after edits: its blocks, and the instructions that still stand.
use Rattle.std.proofs.Common.{◌≡◌, ◌∙◌, ℕ, zero, suc, Bool, true, false, cond, eqb, length, List, [], ◌∷◌, Option, None, Some, refl, sym, ap, subst, arith}
use Rattle.std.proofs.lemmas.List.{length-map}
use Rattle.std.specs.Prelude.{IfSome, slice_get}
use Rattle.mir_meaning.specs.Paths.{has}
use Rattle.slot_index.specs.Order.{Has, ids}
use Rattle.slot_index.proofs.Present.{Has-tail}
use Rattle.mir_func.specs.Edits.{block_place, changed_in, cut, made, put, update}
use Rattle.mir_func.specs.Value.{Function, IsFunction}
use Rattle.instr_effects.specs.Numbered.{IsTable}
use Rattle.instr_effects.specs.declared.owner.Owner.TheVariants as owners
use Rattle.live_lanes.specs.declared.live.LiveFunc.{LiveFunc}
use Rattle.live_lanes.specs.Extents.{range_lane}
use Rattle.live_lanes.specs.Ordered.{all_ids}
use Rattle.live_lanes.proofs.LayoutNumbers.{locate}
use Rattle.live_laws.proofs.Effects.Blocks.{slice-member}
use Rattle.edit_laws.specs.Deferred.{all_deferred, all_deleted, all_gone, SpareGone}
use Rattle.edit_laws.specs.Edits.{Edit, Put, Replace, Erase, all_edited, edited, with_op}
use Rattle.edit_laws.proofs.ErasedLast.{deferred-single, erased-last-law, not-gone}
use Rattle.live_edits.specs.Told.{IsOfRange, TellsPieces}
use Rattle.live_edits.specs.LiveRuns.{IsBegun}
use Rattle.live_edits.specs.declared.live.EditChanges.{EditChanges}
use Rattle.live_edits.proofs.EditedGone.{gone-same}
use Rattle.interference.specs.declared.matrix.Matrix.{Matrix}
use Rattle.interference.specs.Clashes.{register_in}
use Rattle.interference.specs.HeldLanes.{holding_lane, unit_at}
use Rattle.interference.proofs.HeldLanes.{by-parts, pair}
use Rattle.interference.proofs.PutBack.{some-of}
use Rattle.interference.proofs.Ranks.{lane-by-same}
use Rattle.interference.specs.EditedMatrix.{TellsHeld}
use Rattle.live_edits.specs.Drafts.{KeepsOrder}
use Rattle.live_lanes.specs.declared.ask.extent.ChangedPiece.{ChangedPiece}

-- edits leave the number of blocks

length-update : {X : Type 0} (k : ℕ) (f : X → X) (xs : List X) → length (update k f xs) ≡ length xs
length-update k f [] = refl
length-update zero f (x ∷ xs) = refl
length-update (suc k) f (x ∷ xs) = ap suc (length-update k f xs)

blocks-stay : (f : Function) (e : Edit) → length (edited f e).blocks ≡ length f.blocks
blocks-stay f (Put gap op os) = length-update (block_place gap.block f.blocks) (put gap.before (made f.next_id op os)) f.blocks
blocks-stay f (Replace id op os) = length-map f.blocks (changed_in id (with_op op os))
blocks-stay f (Erase id) = length-map f.blocks (cut id)

pub all-blocks-stay : (f : Function) (es : List Edit) → length (all_edited f es).blocks ≡ length f.blocks
all-blocks-stay f [] = refl
all-blocks-stay f (e ∷ es) = all-blocks-stay (edited f e) es ∙ blocks-stay f e

-- what stands after edits isn't erased

pub has-listed : (slots : List (ℕ × ℕ)) (id : ℕ) → Has slots id → has id (ids slots) ≡ true
has-listed [] id h = absurd (omega arith)
has-listed (s ∷ slots) id h = go (eqb s.1 id) refl (has-listed slots id)
  where
    go : (t : Bool) → eqb s.1 id ≡ t → (Has slots id → has id (ids slots) ≡ true) → has id (ids (s ∷ slots)) ≡ true
    go true e ih = ap (λ b. cond b true (has id (ids slots))) e
    go false e ih = ap (λ b. cond b true (has id (ids slots))) e ∙ ih (Has-tail s slots id e h)

standing-not-gone : (f : Function) (es : List Edit) → IsFunction f.blocks f.next_id → SpareGone [] f es → (id : ℕ) → has id (all_ids (all_edited f es).blocks) ≡ true → has id (all_gone [] es) ≡ false
standing-not-gone f es function spare id h =
    let z = locate (all_edited f es).blocks id h in
    let same : all_edited f es ≡ all_deleted (all_deferred f es) (all_gone [] es) = erased-last-law f es spare in
    let at : slice_get (all_deleted (all_deferred f es) (all_gone [] es)).blocks z.place ≡ Some z.block = subst (λ (g : Function). slice_get g.blocks z.place ≡ Some z.block) same z.at in
    subst (λ n. has n (all_gone [] es) ≡ false) z.own
    (not-gone (all_deferred f es) (all_gone [] es) (deferred-single f es function) z.block z.instr (slice-member (all_deleted (all_deferred f es) (all_gone [] es)).blocks z.place z.block at) (slice-member z.block.instrs z.index z.instr z.there))

pub not-erased : (es : List Edit) (before new : LiveFunc) (changes : EditChanges) → IsBegun es before new changes → (slots : List (ℕ × ℕ)) → ids slots ≡ all_ids (all_edited before.func es).blocks → (id : ℕ) → Has slots id → has id changes.erased.items ≡ false
not-erased es before new changes begun slots layout id h =
    let done = begun.done.done in
    done.erases id ∙ (done.edits.does.gone id ∙ (gone-same es done.edits.ready.gone.keys [] done.edits.first.gone id
    ∙ standing-not-gone before.func es begun.may.function begun.may.spare id (subst (λ xs. has id xs ≡ true) layout (has-listed slots id h))))

-- a lane that a range holds is of no range without a register
pub held-not-of : (m : Matrix) (range : Option ℕ) → IfSome range (λ w. register_in m.registers.items w ≡ None) → IsTable m.live.table.lanes → (v u l : ℕ) → holding_lane m v u ≡ Some l → IsOfRange m.live.table.lanes range l → ⊥
held-not-of m None bare table v u l own of-range = of-range
held-not-of m (Some w) bare table v u l own (k, number) =
    let z = by-parts m.live.target m.live.table.lanes v (register_in m.registers.items v) u l own in
    let same : pair w k ≡ pair v z.0 = ap range_lane (sym (table.owned (owners.Range w k) l number) ∙ table.owned (owners.Range v z.0) l z.1) in
    let range : w ≡ v = ap (λ (p : ℕ × ℕ). p.0) (some-of same) in
    let none : register_in m.registers.items v ≡ None = subst (λ n. register_in m.registers.items n ≡ None) range bare in
    let missing : None ≡ Some u = sym (ap (λ r. unit_at m.live.target r z.0) none) ∙ z.2 in
    cc

-- what is told of all lanes is told of those that ranges hold
pub tells-held : (o : Matrix) (y : LiveFunc) (range : Option ℕ) (changed : List ChangedPiece) → IfSome range (λ w. register_in o.registers.items w ≡ None) → IsTable o.live.table.lanes → TellsPieces o.live.table y.table range changed
    → KeepsOrder o.live.table.order.slots y.table.order.slots → y.table.lanes.ranges ≡ o.live.table.lanes.ranges → y.target ≡ o.live.target → TellsHeld (record o { live = y }) o.live changed
tells-held o y range changed bare table told order ranges target = record {
  told = λ v u l b own.
      let same : holding_lane (record o { live = y }) v u ≡ holding_lane o v u = lane-by-same o.live.target y.target o.live.table.lanes y.table.lanes target ranges v (register_in o.registers.items v) u in
      told l b (held-not-of o range bare table v u l (sym same ∙ own));
  order = order;
  ranges = ranges;
  target = target;
}
