-- Numbers for all lanes of a function, where the next range gets some, and where these are taken back.
use Rattle.std.proofs.Common.{◌≡◌, ◌++◌, ◌∷◌, ◌∙◌, List, [], Some, map, length, refl, sym, ap, subst, append-nil}
use Rattle.std.specs.Ordering.{nat_cmp}
use Rattle.std.specs.BTreeMap.{get}
use Rattle.target_base.specs.declared.types.ClassId.{ClassId}
use Rattle.target_base.specs.declared.types.Target.{Target}
use Rattle.target_base.specs.Registers.{widths_of, widths_of_some}
use Rattle.mir_func.specs.Value.{Function}
use Rattle.instr_effects.specs.declared.lanes.LaneTable.{LaneTable}
use Rattle.instr_effects.specs.Numbered.{AddsLanes, NumbersNext, HasSlotsOf, NumbersAll, counts}
use Rattle.instr_effects.proofs.Tables.{with-owners, with-range}

map-join : {X Y : Type 0} (f : X → Y) (xs ys : List X) → map f (xs ++ ys) ≡ map f xs ++ map f ys
map-join f [] ys = refl
map-join f (x ∷ xs) ys = ap (λ zs. f x ∷ zs) (map-join f xs ys)

-- lanes of a further range
pub numbered-next : (t : Target) (f g : Function) (class : ClassId) (old new : LaneTable) → NumbersAll t f old → g ≡ record f { classes = f.classes ++ Some class ∷ [] } → AddsLanes old new → NumbersNext old new (length (widths_of t class)) → NumbersAll t g new
numbered-next t f g class old new all made adds next =
    subst (λ h. NumbersAll t h new) (sym made)
    (record {
      table = with-range old new next.own (length (widths_of t class)) all.table next.owned next.ranges next.first next.long (ap (λ v. v.items) adds.reserved) (λ s. ap (λ m. get nat_cmp m s) adds.slots);
      reserved = ap (λ v. v.items) adds.reserved ∙ all.reserved;
      ranges = ap counts next.ranges ∙ map-join (λ x. x.count) old.ranges.items (next.own ∷ []) ∙ ap (λ n. counts old.ranges.items ++ n ∷ []) next.long
          ∙ ap (λ ns. ns ++ length (widths_of t class) ∷ []) all.ranges ∙ sym (map-join (λ c. length (widths_of_some t c)) f.classes (Some class ∷ []));
      slots = λ k b e. subst (λ m. HasSlotsOf (record new { slots = m }) b.instrs) (sym adds.slots) (all.slots k b e);
    })

-- numbers as they were
pub numbered-same : (t : Target) (f g : Function) (old new : LaneTable) → NumbersAll t f old → g ≡ f → new.owners.items ≡ old.owners.items → new.ranges.items ≡ old.ranges.items → new.reserved ≡ old.reserved → new.slots ≡ old.slots → NumbersAll t g new
numbered-same t f g old new all made owned ranges reserved slots =
    subst (λ h. NumbersAll t h new) (sym made)
    (record {
      table = with-owners old new [] all.table (owned ∙ sym (append-nil old.owners.items)) (ap (λ v. v.items) reserved) ranges (λ s. ap (λ m. get nat_cmp m s) slots);
      reserved = ap (λ v. v.items) reserved ∙ all.reserved;
      ranges = ap counts ranges ∙ all.ranges;
      slots = λ k b e. subst (λ m. HasSlotsOf (record new { slots = m }) b.instrs) (sym slots) (all.slots k b e);
    })
