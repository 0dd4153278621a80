-- Where edits replace or erase all instructions that name a range, and bring none, the code in which erased ones stand doesn't name it.
use Rattle.std.proofs.Common.{◌≡◌, ◌⊎◌, inl, inr, ◌∷◌, ◌++◌, ◌∙◌, ◌≤◌, ◌+◌, ℕ, zero, suc, Bool, true, false, cond, not, List, [], Option, Some, None, refl, sym, ap, subst, map, eqb-true, eq-eqb, arith}
use Rattle.std.specs.Prelude.{◌&&◌, ◌||◌, nat_eq}
use Rattle.std.specs.List.{list_all, list_any}
use Rattle.std.proofs.lemmas.List.Sums.{sum_by-cons}
use Rattle.target_base.specs.declared.types.OpId.{OpId}
use Rattle.target_base.specs.declared.types.Target.{Target}
use Rattle.target_base.proofs.Tests.{first_of_both, second_of_both}
use Rattle.meaning.specs.Live.{Among as Member, here as first, there as later}
use Rattle.mir_func.specs.declared.func.Block.{Block}
use Rattle.mir_func.specs.declared.func.Instr.{Instr}
use Rattle.mir_func.specs.declared.func.Operand.{Operand}
use Rattle.mir_func.specs.Edits.{block_place, changed_in, instr_place, made, update}
use Rattle.mir_func.specs.Value.{Function, IsFunction, id_count, id_total}
use Rattle.mir_meaning.specs.declared.writing.LaneDef.{LaneDef}
use Rattle.mir_meaning.specs.Paths.{Among, Certain, Code, Into, Step, Unused, Use, has, is_present, is_written, last_of, steps_of, use_of, writing_of}
use Rattle.instr_effects.specs.declared.owner.Owner.{Owner}
use Rattle.instr_effects.specs.declared.owner.Owner.TheVariants as owners
use Rattle.instr_effects.specs.Numbered.{number_in, IsTable}
use Rattle.instr_effects.specs.Steps.{Numbering}
use Rattle.instr_effects.proofs.Members.{map-in, map-of, member-elim, member-none}
use Rattle.live_lanes.specs.declared.row.LaneUse.{LaneUse}
use Rattle.live_lanes.specs.declared.table.Table.{Table}
use Rattle.live_lanes.specs.Coded.{Doing, bodies_from}
use Rattle.live_lanes.specs.Doing.{doing_of, lane_code}
use Rattle.live_lanes.specs.Entered.{Shape, Start, IsTableOf, reading_of, readings_until, rows_seen, shape, shape_of, start_of, starts}
use Rattle.live_lanes.specs.Entering.{EnteredStep}
use Rattle.live_lanes.specs.Ordered.{place_of}
use Rattle.live_lanes.specs.Table.{Begun, Seen}
use Rattle.live_lanes.proofs.Basics.{none-among}
use Rattle.live_lanes.proofs.Numbered.{among-cases}
use Rattle.live_laws.proofs.Effects.Blocks.{among-of, of-among}
use Rattle.live_laws.proofs.Effects.Moving.{some-same}
use Rattle.edit_laws.specs.Deferred.{all_deferred, all_gone, deferred, gone_after, idle, nothing, standing_code, TouchesEdits}
use Rattle.edit_laws.specs.Edits.{Edit, Put, Replace, Erase, with_op}
use Rattle.edit_laws.specs.Reasons.{Touched, IsEditOf}
use Rattle.edit_laws.proofs.Aligned.{AreBlocks, AreInstrs, block_stays, instr_changes, instr_comes, instr_goes, instr_stays, no_blocks, no_instrs}
use Rattle.edit_laws.proofs.Codes.{doing-same}
use Rattle.edit_laws.proofs.Deferred.{all-deferred-law}
use Rattle.edit_laws.proofs.Edited.{Never, NeverBoth}
use Rattle.edit_laws.proofs.ErasedLast.{deferred-single, head-other, tail-none, total-step}
use Rattle.edit_laws.proofs.Placed.{put-blocks}
use Rattle.live_edits.specs.Aside.{UnnamedLaw, any_names, are_told, brings, changed_by, changed_ids, is_all_told, is_begun_told}
use Rattle.live_edits.proofs.NotNamed.{not-used, not-written}

-- the steps of a block are those of its instructions

step-of : (doing : Doing) (place : ℕ → Option ℕ) (all : List Block) (n : ℕ) (bs : List Block) (b : ℕ) (s : Step) → Among s (steps_of (bodies_from doing place all n bs) b) → (x : Block) × (i : Instr) × Member x bs × Member i x.instrs × (s ≡ (doing i).0)
step-of doing place all n [] b s m = absurd (none-among s m)
step-of doing place all n (x ∷ bs) zero s m =
    let z = map-of (λ (i : Instr). (doing i).0) s x.instrs (of-among s (map (λ (i : Instr). (doing i).0) x.instrs) m) in
    (x, z.0, first, z.1, z.2)
step-of doing place all n (x ∷ bs) (suc b) s m = let z = step-of doing place all (suc n) bs b s m in (z.0, z.1, later z.2, z.3, z.4)

step-in : (doing : Doing) (place : ℕ → Option ℕ) (all : List Block) (n : ℕ) (bs : List Block) (x : Block) (i : Instr) → Member x bs → Member i x.instrs → (b : ℕ) × Among (doing i).0 (steps_of (bodies_from doing place all n bs) b)
step-in doing place all n [] x i m j = absurd (member-none x m)
step-in doing place all n (y ∷ bs) x i m j = member-elim x y bs own (λ k. let z = step-in doing place all (suc n) bs x i k j in (suc z.0, z.1)) m
  where
    own : x ≡ y → (b : ℕ) × Among (doing i).0 (steps_of (bodies_from doing place all n (y ∷ bs)) b)
    own e =
        let k : Member i y.instrs = subst (λ (z : Block). Member i z.instrs) e j in
        (0, among-of (doing i).0 (map (λ (o : Instr). (doing o).0) y.instrs) (map-in (λ (o : Instr). (doing o).0) i y.instrs k))

-- what a cell tells of instructions

has-among : (l : ℕ) (xs : List ℕ) → Among l xs → has l xs ≡ true
has-among l [] m = absurd (none-among l m)
has-among l (x ∷ xs) m = go (nat_eq x l) refl (among-cases l x xs m) (has-among l xs)
  where
    go : (b : Bool) → nat_eq x l ≡ b → (l ≡ x) ⊎ Among l xs → (Among l xs → has l xs ≡ true) → cond b true (has l xs) ≡ true
    go true e k h = refl
    go false e (inl g) h = absurd (let z : true ≡ false = sym (eq-eqb x l (sym g)) ∙ e in cc)
    go false e (inr k) h = h k

abbrev Quiet : ℕ → Step → Type 0
Quiet l s = (use_of l s ≡ Unused) × (is_written l s ≡ false)

module _ (told : ℕ → Bool) (l : ℕ) where
  abbrev is_start_told : Start → Bool
  is_start_told s = told s.start && are_told told s.readings

  abbrev is_shape_told : Shape → Bool
  is_shape_told v = not v.is_read_last && (are_told told v.readings && list_all is_start_told v.segments)

  starts-told : (ss : List Begun) → list_all (is_begun_told told) ss ≡ list_all is_start_told (map start_of ss)
  starts-told [] = refl
  starts-told (s ∷ ss) = ap (λ b. is_begun_told told s && b) (starts-told ss)

  shape-told : (v : Seen) → is_all_told told v ≡ is_shape_told (shape v)
  shape-told v = ap (λ b. not v.is_read_last && (are_told told v.readings && b)) (starts-told v.segments)

  abbrev Own : Step → Type 0
  Own s = (told s.id ≡ true) ⊎ Quiet l s

  module _ (s : Step) (rest : List LaneUse) (more : List Start) (begin : LaneDef → Start) (begins : (w : LaneDef) → ((begin w).start ≡ s.id) × ((begin w).readings ≡ rest)) where
    abbrev Split : Type 0
    Split = Own s × (are_told told rest ≡ true) × (list_all is_start_told more ≡ true)

    -- what begins here tells of what follows
    begun-told : (w : LaneDef) → list_all is_start_told (begin w ∷ more) ≡ true → (told s.id ≡ true) × (are_told told rest ≡ true) × (list_all is_start_told more ≡ true)
    begun-told w h =
        let own : is_start_told (begin w) ≡ true = first_of_both (is_start_told (begin w)) (list_all is_start_told more) h in (
          ap told (sym (begins w).0) ∙ first_of_both (told (begin w).start) (are_told told (begin w).readings) own,
          ap (are_told told) (sym (begins w).1) ∙ second_of_both (told (begin w).start) (are_told told (begin w).readings) own,
          second_of_both (is_start_told (begin w)) (list_all is_start_told more) h,
        )

    split : (u : Use) → use_of l s ≡ u → (w : Option LaneDef) → writing_of l s.writes ≡ w → are_told told (reading_of s.id u ++ cond (is_present w) [] rest) ≡ true
        → list_all is_start_told (elim w [ None ↦ more | Some x ↦ begin x ∷ more ]) ≡ true → Split
    split u e (Some w) g a h = let z = begun-told w h in (inl z.0, z.1, z.2)
    split Unused e None g a h = (inr (e, ap is_present g), a, h)
    split Certain e None g a h = (inl (first_of_both (told s.id) (are_told told rest) a), second_of_both (told s.id) (are_told told rest) a, h)
    split (Into c) e None g a h = (inl (first_of_both (told s.id) (are_told told rest) a), second_of_both (told s.id) (are_told told rest) a, h)

  steps-told : (ss : List Step) → are_told told (readings_until l ss) ≡ true → list_all is_start_told (starts l ss) ≡ true → (s : Step) → Member s ss → Own s
  steps-told [] a h s m = absurd (member-none s m)
  steps-told (r ∷ ss) a h s m =
      let z = split r (readings_until l ss) (starts l ss) (λ w. record { start = r.id; early = w.early; from = w.from; readings = readings_until l ss }) (λ w. (refl, refl)) (use_of l r) refl (writing_of l r.writes) refl a h in
      member-elim s r ss (λ e. subst (λ (q : Step). Own q) (sym e) z.0) (λ k. steps-told ss z.1 z.2 s k) m

-- edits

-- an instruction is erased, names no lane of the range, did nothing to the lane from the start, or is changed by the edits that are left
data IsFine (quiet : Instr → Type 0) (v : ℕ) (changed gone : List ℕ) (i : Instr) : Type 0 where
  is_gone : has i.id gone ≡ true → IsFine quiet v changed gone i
  is_other : any_names v i.operands ≡ false → IsFine quiet v changed gone i
  is_quiet : quiet i → IsFine quiet v changed gone i
  is_later : has i.id changed ≡ true → IsFine quiet v changed gone i

abbrev AllIn : (Instr → Type 0) → List Instr → Type 0
AllIn P is = (i : Instr) → Member i is → P i

abbrev AllOf : (Instr → Type 0) → List Block → Type 0
AllOf P bs = (b : Block) (i : Instr) → Member b bs → Member i b.instrs → P i

same-test : (a b : ℕ) → nat_eq a b ≡ false → nat_eq b a ≡ false
same-test a b e = go (nat_eq b a) refl
  where
    go : (u : Bool) → nat_eq b a ≡ u → u ≡ false
    go true d = absurd (let z : true ≡ false = sym (eq-eqb a b (sym (eqb-true b a d))) ∙ e in cc)
    go false d = refl

neither : (a b : Bool) → (a || b) ≡ false → (a ≡ false) × (b ≡ false)
neither true b e = absurd (let z : true ≡ false = e in cc)
neither false b e = (refl, e)

module _ (P : Instr → Type 0) (x : Instr) (new : P x) where
  abbrev IsNew : Instr → Type 0
  IsNew j = j ≡ x

  put-in : {is js : List Instr} → AreInstrs Never IsNew NeverBoth is js → AllIn P is → AllIn P js
  put-in no_instrs h j m = absurd (member-none j m)
  put-in (instr_stays {i = i} {js = js} a) h j m = member-elim j i js (λ e. subst P (sym e) (h i first)) (λ k. put-in a (λ o n. h o (later n)) j k) m
  put-in (instr_changes z a) h j m = absurd z
  put-in (instr_goes z a) h j m = absurd z
  put-in (instr_comes {j = i} {js = js} z a) h j m = member-elim j i js (λ e. subst P (sym (e ∙ z)) new) (λ k. put-in a h j k) m

  put-all : {bs cs : List Block} → AreBlocks Never IsNew NeverBoth bs cs → AllOf P bs → AllOf P cs
  put-all no_blocks h c j m n = absurd (member-none c m)
  put-all (block_stays {b = b} {c = d} {cs = cs} number successors a rest) h c j m n =
      member-elim c d cs (λ e. put-in a (λ i o. h b i first o) j (subst (λ (y : Block). Member j y.instrs) e n)) (λ k. put-all rest (λ y i o p. h y i (later o) p) c j k n) m

-- of an id that stands once at most, the only instruction is changed

module _ (id : ℕ) (change : Instr → Instr) where
  abbrev IsChanged : List Instr → Instr → Type 0
  IsChanged is j = ((i : Instr) × Member i is × (j ≡ change i)) ⊎ (Member j is × (nat_eq j.id id ≡ false))

  others : (is : List Instr) → id_count id is ≡ 0 → (j : Instr) → Member j is → nat_eq j.id id ≡ false
  others [] none j m = absurd (member-none j m)
  others (i ∷ is) none j m = member-elim j i is (λ e. ap (λ (o : Instr). nat_eq o.id id) e ∙ head-other id i is none) (λ k. others is (tail-none id i is none) j k) m

  count-step : (i : Instr) (is : List Instr) → id_count id (i ∷ is) ≡ cond (nat_eq i.id id) 1 0 + id_count id is
  count-step i is = sum_by-cons (λ (x : Instr). cond (nat_eq x.id id) 1 0) i is

  more-changed : (i : Instr) (is : List Instr) (j : Instr) → IsChanged is j → IsChanged (i ∷ is) j
  more-changed i is j (inl z) = inl (z.0, later z.1, z.2)
  more-changed i is j (inr z) = inr (later z.0, z.1)

  changed-in : (is : List Instr) → id_count id is ≤ 1 → (j : Instr) → Member j (update (instr_place id is) change is) → IsChanged is j
  changed-in [] few j m = absurd (member-none j m)
  changed-in (i ∷ is) few j m = go (nat_eq i.id id) refl (λ left n. changed-in is left j n) m
    where
      go : (u : Bool) → nat_eq i.id id ≡ u → (id_count id is ≤ 1 → Member j (update (instr_place id is) change is) → IsChanged is j) → Member j (update (cond (not u) (1 + instr_place id is) 0) change (i ∷ is)) → IsChanged (i ∷ is) j
      go true e later-on k =
          let none : id_count id is ≡ 0 = let s : id_count id (i ∷ is) ≡ 1 + id_count id is = count-step i is ∙ ap (λ u. cond u 1 0 + id_count id is) e in omega (arith, s, few) in
          member-elim j (change i) is (λ h. inl (i, first, h)) (λ n. inr (later n, others is none j n)) k
      go false e later-on k =
          let next : 1 + instr_place id is ≡ suc (instr_place id is) = omega arith in
          let left : id_count id is ≤ 1 = omega (arith, count-step i is, few) in
          member-elim j i (update (instr_place id is) change is) (λ h. inr (subst (λ (o : Instr). Member o (i ∷ is)) (sym h) first, ap (λ (o : Instr). nat_eq o.id id) h ∙ e)) (λ n. more-changed i is j (later-on left n))
          (subst (λ n. Member j (update n change (i ∷ is))) next k)

  once-in : (bs : List Block) → id_total id bs ≤ 1 → (b : Block) → Member b bs → id_count id b.instrs ≤ 1
  once-in [] few b m = absurd (member-none b m)
  once-in (c ∷ bs) few b m =
      let own : id_count id c.instrs ≤ 1 = omega (arith, total-step id c bs, few) in
      let left : id_total id bs ≤ 1 = omega (arith, total-step id c bs, few) in
      member-elim b c bs (λ e. subst (λ (y : Block). id_count id y.instrs ≤ 1) (sym e) own) (λ k. once-in bs left b k) m

deferred-more : (es : List Edit) (f : Function) (e : Edit) → all_deferred f (es ++ e ∷ []) ≡ deferred (all_deferred f es) e
deferred-more [] f e = refl
deferred-more (d ∷ es) f e = deferred-more es (deferred f d) e

classes-stay : (es : List Edit) (f : Function) → f.classes ≡ (all_deferred f es).classes
classes-stay [] f = refl
classes-stay (Put gap op os ∷ es) f = classes-stay es (deferred f (Put gap op os))
classes-stay (Replace id op os ∷ es) f = classes-stay es (deferred f (Replace id op os))
classes-stay (Erase id ∷ es) f = classes-stay es f

module _ (quiet : Instr → Type 0) (v : ℕ) where
  abbrev Fine : List ℕ → List ℕ → Instr → Type 0
  Fine changed gone i = IsFine quiet v changed gone i

  -- an instruction that isn't the one that is changed
  not-this : (id : ℕ) (changed gone : List ℕ) (i : Instr) → nat_eq i.id id ≡ false → Fine (id ∷ changed) gone i → Fine changed gone i
  not-this id changed gone i e (is_gone h) = is_gone h
  not-this id changed gone i e (is_other h) = is_other h
  not-this id changed gone i e (is_quiet h) = is_quiet h
  not-this id changed gone i e (is_later h) = is_later (sym (ap (λ u. cond u true (has i.id changed)) (same-test i.id id e)) ∙ h)

  still-gone : (id : ℕ) (changed gone : List ℕ) (i : Instr) → Fine changed gone i → Fine changed (id ∷ gone) i
  still-gone id changed gone i (is_gone h) = is_gone (go (nat_eq id i.id))
    where
      go : (u : Bool) → cond u true (has i.id gone) ≡ true
      go true = refl
      go false = h
  still-gone id changed gone i (is_other h) = is_other h
  still-gone id changed gone i (is_quiet h) = is_quiet h
  still-gone id changed gone i (is_later h) = is_later h

  erased : (id : ℕ) (changed gone : List ℕ) (i : Instr) → Fine (id ∷ changed) gone i → Fine changed (id ∷ gone) i
  erased id changed gone i h = go (nat_eq i.id id) refl
    where
      go : (u : Bool) → nat_eq i.id id ≡ u → Fine changed (id ∷ gone) i
      go true e = is_gone (ap (λ u. cond u true (has i.id gone)) (eq-eqb id i.id (sym (eqb-true i.id id e))))
      go false e = still-gone id changed gone i (not-this id changed gone i e h)

  replaced-fine : (id : ℕ) (op : OpId) (os : List Operand) (changed gone : List ℕ) (is : List Instr) → any_names v os ≡ false → AllIn (Fine (id ∷ changed) gone) is → (j : Instr) → IsChanged id (with_op op os) is j → Fine changed gone j
  replaced-fine id op os changed gone is none all j (inl z) = is_other (ap (λ (o : Instr). any_names v o.operands) z.2 ∙ none)
  replaced-fine id op os changed gone is none all j (inr z) = not-this id changed gone j z.1 (all j z.0)

  one-edit : (e : Edit) (g : Function) (changed gone : List ℕ) → ((id : ℕ) → id_total id g.blocks ≤ 1) → brings v e ≡ false → AllOf (Fine (changed_by e ++ changed) gone) g.blocks → AllOf (Fine changed (gone_after gone e)) (deferred g e).blocks
  one-edit (Put gap op os) g changed gone once none all b i m n =
      put-all (Fine changed gone) (made g.next_id op os) (is_other none) (put-blocks Never (λ j. j ≡ made g.next_id op os) NeverBoth (made g.next_id op os) refl gap.before (block_place gap.block g.blocks) g.blocks) all b i m n
  one-edit (Replace id op os) g changed gone once none all b i m n =
      let z = map-of (changed_in id (with_op op os)) b g.blocks m in
      replaced-fine id op os changed gone z.0.instrs none (λ j k. all z.0 j z.1 k) i
      (changed-in id (with_op op os) z.0.instrs (once-in id (with_op op os) g.blocks (once id) z.0 z.1) i (subst (λ (y : Block). Member i y.instrs) z.2 n))
  one-edit (Erase id) g changed gone once none all b i m n = erased id changed gone i (all b i m n)

  all-edits : (f : Function) → IsFunction f.blocks f.next_id → (es ds : List Edit) (gone : List ℕ) → list_any (brings v) es ≡ false → AllOf (Fine (changed_ids es) gone) (all_deferred f ds).blocks → AllOf (Fine [] (all_gone gone es)) (all_deferred (all_deferred f ds) es).blocks
  all-edits f is [] ds gone none all = all
  all-edits f is (e ∷ es) ds gone none all =
      let g : Function = all_deferred f ds in
      let not : (brings v e ≡ false) × (list_any (brings v) es ≡ false) = neither (brings v e) (list_any (brings v) es) none in
      let one : AllOf (Fine (changed_ids es) (gone_after gone e)) (deferred g e).blocks = one-edit e g (changed_ids es) gone (deferred-single f ds is) not.0 all in
      subst (λ (h : Function). AllOf (Fine [] (all_gone (gone_after gone e) es)) (all_deferred h es).blocks) (deferred-more ds f e)
      (all-edits f is es (ds ++ e ∷ []) (gone_after gone e) not.1 (subst (λ (h : Function). AllOf (Fine (changed_ids es) (gone_after gone e)) h.blocks) (sym (deferred-more ds f e)) one))

module _ (touched : Touched) (t : Target) (f : Function) (x : Table) (es : List Edit) (v k l : ℕ) (is : IsFunction f.blocks f.next_id) (table : IsTable x.lanes) (tabled : IsTableOf (lane_code t f (number_in x.lanes)) x.order.slots x.flow.items x.rows.rows.items) (touches : TouchesEdits touched t f (number_in x.lanes) es) (none : list_any (brings v) es ≡ false) (own : number_in x.lanes (owners.Range v k) ≡ Some l) (cells : (b : ℕ) → is_all_told (λ id. has id (changed_ids es)) (rows_seen x.rows.rows.items l b) ≡ true) where
  abbrev num : Numbering
  num = number_in x.lanes

  abbrev before : Code
  before = lane_code t f num

  abbrev g : Function
  g = all_deferred f es

  abbrev gone : List ℕ
  gone = all_gone [] es

  abbrev told : ℕ → Bool
  told id = has id (changed_ids es)

  only : (o : Owner) → num o ≡ Some l → o ≡ owners.Range v k
  only o e = some-same o (owners.Range v k) (sym (table.owned o l e) ∙ table.owned (owners.Range v k) l own)

  cell-told : (b : ℕ) → is_shape_told told l (shape_of before l b) ≡ true
  cell-told b =
      ap (is_shape_told told l) (sym (tabled.entered l b))
      ∙ (sym (shape-told told l (rows_seen x.rows.rows.items l b)) ∙ cells b)

  abbrev QuietAt : Instr → Type 0
  QuietAt i = Quiet l (doing_of t f num i).0

  first-fine : AllOf (IsFine QuietAt v (changed_ids es) []) f.blocks
  first-fine b i m n =
      let z = step-in (doing_of t f num) (λ p. place_of p f.blocks) f.blocks 0 f.blocks b i m n in
      let ss = steps_of before z.0 in
      let all = second_of_both (not (has l (last_of before z.0))) (are_told told (readings_until l ss) && list_all (is_start_told told l) (starts l ss)) (cell-told z.0) in
      go (steps-told told l ss (first_of_both (are_told told (readings_until l ss)) (list_all (is_start_told told l) (starts l ss)) all) (second_of_both (are_told told (readings_until l ss)) (list_all (is_start_told told l) (starts l ss)) all)
      (doing_of t f num i).0 (of-among (doing_of t f num i).0 ss z.1))
    where
      go : Own told l (doing_of t f num i).0 → IsFine QuietAt v (changed_ids es) [] i
      go (inl h) = is_later h
      go (inr h) = is_quiet h

  last-fine : AllOf (IsFine QuietAt v [] gone) g.blocks
  last-fine = all-edits QuietAt v f is es [] [] none first-fine

  -- what stands does nothing to the lane

  does-nothing : (i : Instr) → IsFine QuietAt v [] gone i → Quiet l (doing_of t g num i).0 ⊎ (has i.id gone ≡ true)
  does-nothing i (is_gone h) = inr h
  does-nothing i (is_other h) = inl (not-used t g num v k l only i h, ap is_present (not-written t g num v k l only i h))
  does-nothing i (is_quiet h) = inl (subst (λ (d : EnteredStep). Quiet l d.0) (doing-same t f g (classes-stay es f) num i) h)
  does-nothing i (is_later h) = absurd (let z : false ≡ true = h in cc)

  standing-quiet : (i : Instr) → IsFine QuietAt v [] gone i → Quiet l (idle gone (doing_of t g num) i).0
  standing-quiet i fine = go (has i.id gone) refl (does-nothing i fine)
    where
      go : (u : Bool) → has i.id gone ≡ u → Quiet l (doing_of t g num i).0 ⊎ (has i.id gone ≡ true) → Quiet l (cond u (nothing i.id) (doing_of t g num i)).0
      go true e h = (refl, refl)
      go false e (inl h) = h
      go false e (inr h) = absurd (let z : true ≡ false = sym h ∙ e in cc)

  step-quiet : (b : ℕ) (s : Step) → Among s (steps_of (standing_code t f num es) b) → Quiet l s
  step-quiet b s m =
      let z = step-of (idle gone (doing_of t g num)) (λ p. place_of p g.blocks) g.blocks 0 g.blocks b s m in
      subst (λ (r : Step). Quiet l r) (sym z.4) (standing-quiet z.1 (last-fine z.0 z.1 z.2 z.3))

  not-last : (b : ℕ) → Among l (last_of (standing_code t f num es) b) → ⊥
  not-last b m =
      let edit : IsEditOf touched before (standing_code t f num es) = all-deferred-law touched t f num es touches in
      let read : has l (last_of before b) ≡ true = has-among l (last_of before b) (subst (λ ls. Among l ls) (sym (edit.last b)) m) in
      let unread : not (has l (last_of before b)) ≡ true = first_of_both (not (has l (last_of before b))) (are_told told (readings_until l (steps_of before b)) && list_all (is_start_told told l) (starts l (steps_of before b))) (cell-told b) in
      let z : false ≡ true = sym (ap not read) ∙ unread in cc

pub unnamed-law : UnnamedLaw
unnamed-law touched t f x es v k l is table tabled touches none own cells = record {
  unused = λ b s m. (step-quiet touched t f x es v k l is table tabled touches none own cells b s m).0;
  unwritten = λ b s m. (step-quiet touched t f x es v k l is table tabled touches none own cells b s m).1;
  unread = not-last touched t f x es v k l is table tabled touches none own cells;
}
