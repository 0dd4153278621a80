-- Edits of a draft, and what takes them back.
use Rattle.std.proofs.Common.{◌≡◌, ◌≢◌, ◌∷◌, ◌++◌, ◌∙◌, ◌+◌, ◌<◌, ◌≤◌, ◌^◌, not, ℕ, zero, suc, Bool, true, false, cond, length, List, [], Option, Some, None, refl, sym, ap, subst, map, take, get_or, add-one, ◌||◌, append_assoc, append-nil, arith, eqb-true, eq-eqb}
use Rattle.std.specs.Prelude.{◌==◌, OnErr, Ok, Err, nat_eq, slice_get}
use Rattle.std.specs.declared.result.Result.{Result}
use Rattle.std.specs.Option.{option_map_or}
use Rattle.std.specs.Ordering.{nat_cmp}
use Rattle.std.specs.BTreeMap.{get}
use Rattle.std.proofs.lemmas.Option.{same_Some}
use Rattle.target_base.specs.declared.types.OpId.{OpId}
use Rattle.mir_func.specs.declared.func.Block.{Block}
use Rattle.mir_func.specs.declared.func.Gap.{Gap}
use Rattle.mir_func.specs.declared.func.Instr.{Instr}
use Rattle.mir_func.specs.declared.func.Op.{Op}
use Rattle.mir_func.specs.declared.func.Op.TheVariants as ops
use Rattle.mir_func.specs.declared.func.Operand.{Operand}
use Rattle.mir_func.specs.Value.{Function, IsFunction}
use Rattle.mir_func.specs.Edits.{block_place, changed_in, cut, deleted, gap_place, instr_place}
use Rattle.mir_func.specs.At.{instrs_at, instr_at, operation, removed_at, replaced_at, retracted_at}
use Rattle.mir_func.proofs.ByPlace.{inserted_is_put, removed_is_deleted, replaced_is_changed}
use Rattle.mir_func.proofs.Later.{deleted-twice}
use Rattle.mir_func.proofs.Places.{position_or_len-le, update_past}
use Rattle.mir_func.proofs.Standing.{remove_past, room_at}
use Rattle.mir_func.proofs.TakenBack.{restored-law, retracted-law}
use Rattle.mir_meaning.specs.Paths.{has}
use Rattle.live_lanes.specs.declared.order.Order.{Order}
use Rattle.live_lanes.proofs.Flowing.{has-both}
use Rattle.edit_laws.specs.Deferred.{all_deleted}
use Rattle.edit_laws.specs.Edits.{replaced, with_op}
use Rattle.live_edits.specs.declared.draft.Draft.{Draft}
use Rattle.live_edits.specs.declared.draft.FormerInstr.{FormerInstr}
use Rattle.live_edits.specs.declared.draft.FormerInstr.TheVariants as formers
use Rattle.live_edits.specs.Drafts.{IsOrderOf, HasGap, IsPlaceOf, TakesId, HasRoom, PutsAt, PutsInto, LetsGo, undone, all_undone, IsDraftLogged, IsUndone}
use Rattle.live_edits.proofs.DraftOrder.{other-numbers, removed-order, replaced-order}
use Rattle.live_edits.proofs.DraftPlaces.{gap-position, take-past}

-- logs

pub undone-both : (es fs : List FormerInstr) (f : Function) → all_undone (es ++ fs) f ≡ all_undone es (all_undone fs f)
undone-both [] fs f = refl
undone-both (e ∷ es) fs f = ap (undone e) (undone-both es fs f)

-- edits that are logged one after the other
pub draft-logged-then : (x y z : Draft) → IsDraftLogged x y → IsDraftLogged y z → IsDraftLogged x z
draft-logged-then x y z p q = record {
  added = p.added ++ q.added;
  list = q.list ∙ (ap (λ es. es ++ q.added) p.list ∙ append_assoc x.log.items p.added q.added);
  back = undone-both p.added q.added z.func ∙ (ap (all_undone p.added) q.back ∙ p.back);
  order = q.order;
}

-- nothing is changed
pub stays-logged : (old new : Draft) → new.func ≡ old.func → IsOrderOf new.func new.order → new.log.items ≡ old.log.items → IsDraftLogged old new
stays-logged old new same order log = record { added = []; list = log ∙ sym (append-nil old.log.items); back = same; order = order }

-- what holds in any case holds after a refusal
pub any-err : {T E : Type 0} (r : Result T E) (P : Type 0) → P → OnErr r P
any-err (Ok x) P p = tt
any-err (Err e) P p = p

-- an instruction is put into a gap

gap-within : (before : Option ℕ) (is : List Instr) → gap_place before is ≤ length is
gap-within None is = omega arith
gap-within (Some id) is = position_or_len-le (λ (i : Instr). i.id == id) is

pub gap-room : (f : Function) (o : Order) (gap : Gap) (p k : ℕ) → IsOrderOf f o → HasGap f gap → p ≡ block_place gap.block f.blocks → k ≡ gap_place gap.before (instrs_at f.blocks p) → f.next_id + 1 < 2 ^ 32 → HasRoom f o p k
gap-room f o gap p k order there at place room =
    let within : p < length f.blocks = subst (λ n. n < length f.blocks) (sym at) there.block in
    record {
      order = order;
      room = room_at p (length f.blocks) f.next_id within room;
      within = subst (λ n. n ≤ length (instrs_at f.blocks p)) (sym place) (gap-within gap.before (instrs_at f.blocks p));
    }

-- the gap's position and place, and that there is room
pub put-ready : (f : Function) (o : Order) (gap : Gap) (p k : ℕ) (q : Option ℕ) → q ≡ get nat_cmp o.positions gap.block → q ≡ Some p → f.next_id + 1 < 2 ^ 32
    → (IsOrderOf f o → HasGap f gap → p ≡ block_place gap.block f.blocks → k ≡ gap_place gap.before (instrs_at f.blocks p)) → IsOrderOf f o → HasGap f gap
    → HasRoom f o p k × (p ≡ block_place gap.block f.blocks) × (k ≡ gap_place gap.before (instrs_at f.blocks p))
put-ready f o gap p k q asked some next answer order there =
    let found : q ≡ Some (block_place gap.block f.blocks) = gap-position f o gap order there q (asked ∙ order.positions gap.block) in
    let at : p ≡ block_place gap.block f.blocks = same_Some p (block_place gap.block f.blocks) (sym some ∙ found) in
    let place = answer order there at in
    (gap-room f o gap p k order there at place next, at, place)

pub put-into : (old new : Draft) (gap : Gap) (op : OpId) (os : List Operand) (p k id : ℕ) → HasRoom old.func old.order p k → p ≡ block_place gap.block old.func.blocks → k ≡ gap_place gap.before (instrs_at old.func.blocks p)
    → PutsAt old.func new.func new.order p k op os → id ≡ old.func.next_id → PutsInto old new gap op os p id
put-into old new gap op os p k id room at place puts named = record {
  func = puts.func ∙ inserted_is_put old.func gap p k op os at place room.room;
  order = puts.order;
  position_is = at;
  id_is = named;
}

pub put-logged : (old new : Draft) (op : OpId) (os : List Operand) (p k : ℕ) → HasRoom old.func old.order p k → PutsAt old.func new.func new.order p k op os → new.log.items ≡ old.log.items ++ formers.Put p k ∷ [] → IsDraftLogged old new
put-logged old new op os p k room puts log = record {
  added = formers.Put p k ∷ [];
  list = log;
  back = ap (λ f. retracted_at f p k) puts.func ∙ retracted-law old.func p k op os room.room room.within;
  order = puts.order;
}

-- an instruction is replaced

none-placed : (id : ℕ) (is : List Instr) → ((k : ℕ) (i : Instr) → slice_get is k ≡ Some i → i.id ≢ id) → length is ≤ instr_place id is
none-placed id [] h = omega arith
none-placed id (i ∷ is) h = go (nat_eq i.id id) refl (none-placed id is (λ k j e. h (suc k) j e))
  where
    go : (u : Bool) → nat_eq i.id id ≡ u → length is ≤ instr_place id is → suc (length is) ≤ cond (not u) (1 + instr_place id is) 0
    go true e rest = absurd (h 0 i refl (eqb-true i.id id e))
    go false e rest = omega (arith, rest)

-- where no instruction has the id, a change of the one of that id changes nothing
pub none-changed : (id : ℕ) (g : Instr → Instr) (bs : List Block) → ((p k : ℕ) (i : Instr) → instr_at bs p k ≡ Some i → i.id ≢ id) → map (changed_in id g) bs ≡ bs
none-changed id g [] h = refl
none-changed id g (b ∷ bs) h =
    ap (λ is. (record b { instrs = is }) ∷ map (changed_in id g) bs) (update_past g b.instrs (instr_place id b.instrs) (none-placed id b.instrs (λ k i e. h 0 k i e)))
    ∙ ap (λ cs. b ∷ cs) (none-changed id g bs (λ p k i e. h (suc p) k i e))

pub none-deleted : (id : ℕ) (bs : List Block) → ((p k : ℕ) (i : Instr) → instr_at bs p k ≡ Some i → i.id ≢ id) → map (cut id) bs ≡ bs
none-deleted id [] h = refl
none-deleted id (b ∷ bs) h =
    ap (λ is. (record b { instrs = is }) ∷ map (cut id) bs) (remove_past b.instrs (instr_place id b.instrs) (none-placed id b.instrs (λ k i e. h 0 k i e)))
    ∙ ap (λ cs. b ∷ cs) (none-deleted id bs (λ p k i e. h (suc p) k i e))

pub replace-none : (f : Function) (id : ℕ) (op : OpId) (os : List Operand) → IsPlaceOf f id None → f ≡ replaced f id op os
replace-none f id op os none = ap (λ bs. record f { blocks = bs }) (sym (none-changed id (with_op op os) f.blocks none))

pub replace-done : (f g : Function) (id : ℕ) (at : ℕ × ℕ) (op : OpId) (os : List Operand) → IsFunction f.blocks f.next_id → IsPlaceOf f id (Some at) → g ≡ replaced_at f at.0 at.1 (ops.Known op) os → g ≡ replaced f id op os
replace-done f g id at op os is found done =
    done ∙ (replaced_is_changed f at.0 at.1 found.0 (ops.Known op) os is found.1 ∙ ap (λ n. record f { blocks = map (changed_in n (with_op op os)) f.blocks }) found.2)

pub replace-order : (f g : Function) (o : Order) (p k : ℕ) (op : Op) (os : List Operand) → IsOrderOf f o → g ≡ replaced_at f p k op os → IsOrderOf g o
replace-order f g o p k op os order done = subst (λ h. IsOrderOf h o) (sym done) (replaced-order f o p k op os order)

pub replace-logged : (old new : Draft) (id : ℕ) (at : ℕ × ℕ) (op was : Op) (os were : List Operand) → IsOrderOf old.func old.order → IsPlaceOf old.func id (Some at)
    → new.func ≡ replaced_at old.func at.0 at.1 op os → (was, were) ≡ option_map_or operation (instr_at old.func.blocks at.0 at.1) (op, os) → new.order ≡ old.order
    → new.log.items ≡ old.log.items ++ formers.Replaced at.0 at.1 was were ∷ [] → IsDraftLogged old new
replace-logged old new id at op was os were order found done former same log =
    let Pair : Type 0 = Op × List Operand in
    let before : Path Pair (was, were) (operation found.0) = former ∙ ap (λ (o : Option Instr). option_map_or operation o (op, os)) found.1 in
    record {
      added = formers.Replaced at.0 at.1 was were ∷ [];
      list = log;
      back = ap (λ f. replaced_at f at.0 at.1 was were) done
          ∙ (ap (λ (o : Op × List Operand). replaced_at (replaced_at old.func at.0 at.1 op os) at.0 at.1 o.0 o.1) before
          ∙ restored-law old.func at.0 at.1 found.0 op os found.1);
      order = subst (λ o. IsOrderOf new.func o) (sym same) (replace-order old.func new.func old.order at.0 at.1 op os order done);
    }

-- instructions go

not-among : (id n : ℕ) → has n (id ∷ []) ≡ false → n ≢ id
not-among id n h same = let e : cond (nat_eq id n) true false ≡ true = ap (λ u. cond u true false) (eq-eqb id n (sym same)) in absurd (let z : true ≡ false = sym e ∙ h in cc)

pub erase-none : (f : Function) (o : Order) (id : ℕ) → IsOrderOf f o → IsPlaceOf f id None → LetsGo f f o o (id ∷ [])
erase-none f o id order none = record { func = ap (λ bs. record f { blocks = bs }) (sym (none-deleted id f.blocks none)); order = order; numbers = λ n h. refl }

pub erase-done : (f g : Function) (x y : Order) (id : ℕ) (at : ℕ × ℕ) → IsFunction f.blocks f.next_id → IsOrderOf f x → IsPlaceOf f id (Some at) → g ≡ removed_at f at.0 at.1 → TakesId id x y → LetsGo f g x y (id ∷ [])
erase-done f g x y id at is order found done takes = record {
  func = done ∙ (removed_is_deleted f at.0 at.1 found.0 is found.1 ∙ ap (deleted f) found.2);
  order = subst (λ h. IsOrderOf h y) (sym done) (removed-order f x y at.0 at.1 found.0 is order found.1 (subst (λ n. TakesId n x y) (sym found.2) takes));
  numbers = λ n h. other-numbers id x y takes n (not-among id n h);
}

-- one that goes after all others
pub all-deleted-last : (f : Function) (xs : List ℕ) (id : ℕ) → all_deleted f (xs ++ id ∷ []) ≡ deleted (all_deleted f xs) id
all-deleted-last f [] id = refl
all-deleted-last f (x ∷ xs) id = ap (λ g. deleted g x) (all-deleted-last f xs id) ∙ deleted-twice (all_deleted f xs) x id

take-last : (xs : List ℕ) (k d : ℕ) → k < length xs → take (suc k) xs ≡ take k xs ++ get_or xs k d ∷ []
take-last [] k d h = absurd (omega (arith, h))
take-last (x ∷ xs) zero d h = refl
take-last (x ∷ xs) (suc k) d h = ap (λ ys. x ∷ ys) (take-last xs k d (omega (arith, h)))

neither : (u v : Bool) → u || v ≡ false → (u ≡ false) × (v ≡ false)
neither true v h = absurd (cc)
neither false v h = (refl, h)

pub lets-none : (f : Function) (o : Order) → IsOrderOf f o → LetsGo f f o o []
lets-none f o order = record { func = refl; order = order; numbers = λ n h. refl }

lets-both : (f g h : Function) (x y z : Order) (xs : List ℕ) (id : ℕ) → LetsGo f g x y xs → LetsGo g h y z (id ∷ []) → LetsGo f h x z (xs ++ id ∷ [])
lets-both f g h x y z xs id first second = record {
  func = second.func ∙ (ap (λ v. deleted v id) first.func ∙ sym (all-deleted-last f xs id));
  order = second.order;
  numbers = λ n none. let both = neither (has n xs) (has n (id ∷ [])) (sym (has-both n xs (id ∷ [])) ∙ none) in second.numbers n both.1 ∙ first.numbers n both.0;
}

-- one more instruction goes
pub lets-more : (f g h : Function) (x y z : Order) (xs : List ℕ) (k id d : ℕ) → k < length xs → id ≡ get_or xs k d → LetsGo f g x y (take k xs) → LetsGo g h y z (id ∷ []) → LetsGo f h x z (take (k + 1) xs)
lets-more f g h x y z xs k id d within own first second =
    let more : take k xs ++ id ∷ [] ≡ take (k + 1) xs = ap (λ n. take k xs ++ n ∷ []) own ∙ (sym (take-last xs k d within) ∙ ap (λ n. take n xs) (sym (add-one k))) in
    subst (LetsGo f h x z) more (lets-both f g h x y z (take k xs) id first second)

pub lets-all : (f g : Function) (x y : Order) (xs : List ℕ) (k : ℕ) → length xs ≤ k → LetsGo f g x y (take k xs) → LetsGo f g x y xs
lets-all f g x y xs k past so = subst (LetsGo f g x y) (take-past k xs past) so

-- edits are taken back

pub undone-step : (log rest : List FormerInstr) (e : FormerInstr) (f g : Function) → log ≡ rest ++ e ∷ [] → g ≡ undone e f → all_undone rest g ≡ all_undone log f
undone-step log rest e f g split done = ap (all_undone rest) done ∙ sym (ap (λ es. all_undone es f) split ∙ undone-both rest (e ∷ []) f)

-- what is taken back after logged edits is the function before them
pub undone-whole : (old new back : Draft) → old.log.items ≡ [] → IsDraftLogged old new → IsUndone new back → back.func ≡ old.func
undone-whole old new back none logged undoes =
    undoes.func ∙ (ap (λ es. all_undone es new.func) (logged.list ∙ ap (λ es. es ++ logged.added) none) ∙ logged.back)
