-- The code in which erased instructions stand is that of the edited function but for these.
use Rattle.std.proofs.Common.{◌≡◌, ◌∷◌, ◌++◌, ◌∙◌, ℕ, zero, suc, true, false, cond, List, [], Option, Some, None, refl, sym, ap, subst, map, flat_map}
use Rattle.std.specs.Prelude.{slice_get}
use Rattle.target_base.specs.declared.types.Target.{Target}
use Rattle.meaning.specs.Live.{Among as Member, here as first, there as later}
use Rattle.mir_func.specs.declared.func.Block.{Block}
use Rattle.mir_func.specs.declared.func.Instr.{Instr}
use Rattle.mir_func.specs.Value.{Function, IsFunction}
use Rattle.mir_func.specs.Edits.{cut, deleted}
use Rattle.mir_meaning.specs.Paths.{Among, here, there, Body, Step, steps_of, has}
use Rattle.instr_effects.specs.Numbered.{number_in}
use Rattle.instr_effects.specs.Steps.{Numbering}
use Rattle.live_lanes.specs.declared.table.Table.{Table}
use Rattle.live_lanes.specs.Coded.{Doing, bodies_from, code_of, lanes_at}
use Rattle.live_lanes.specs.Doing.{doing_of, lane_code, IsComputed}
use Rattle.live_lanes.specs.Entering.{EnteredStep}
use Rattle.live_lanes.specs.Ordered.{place_of}
use Rattle.live_laws.proofs.Exact.Inside.{all}
use Rattle.edit_laws.specs.Deferred.{all_deferred, all_gone, all_deleted, nothing, idle, idle_code, standing_code, SpareGone, StandingLaw, StandingTableLaw, EditedRowsLaw}
use Rattle.edit_laws.specs.Edits.{Edit, all_edited}
use Rattle.edit_laws.proofs.Aligned.{AreInstrs, no_instrs, instr_stays, instr_changes, instr_goes, instr_comes}
use Rattle.edit_laws.proofs.Codes.{doing-same}
use Rattle.edit_laws.proofs.Composed.{all-classes-stay}
use Rattle.edit_laws.proofs.Deferred.{first-instrs}
use Rattle.edit_laws.proofs.Edited.{Never, NeverBoth}
use Rattle.edit_laws.proofs.ErasedLast.{deferred-single, erased-last-law, has-first, has-later, not-gone}
use Rattle.edit_laws.proofs.Further.{with-lanes}
use Rattle.edit_laws.proofs.Left.{AreLeft, none_left, one_left, one_goes, IsLeft, code-left, left-then, left-codes, left-table}
use Rattle.edit_laws.proofs.Numbers.{bodies-do, entries-do}
use Rattle.edit_laws.proofs.Placed.{Named, erase-blocks}
use Rattle.edit_laws.proofs.RowsUpdated.{rows-update-law}
use Rattle.edit_laws.proofs.SideBySide.{AreSideBySide, no_more, one_more, codes-beside, done_by, read_at_ends}

-- what a body of a code does
abbrev steps_in : Option Body → List Step
steps_in q = elim q as (λ o. List Step) [ None ↦ [] | Some x ↦ x.steps ]

module _ (t : Target) (num : Numbering) (gone : List ℕ) where
  -- the instruction of an id that does nothing goes

  module _ (f : Function) (id : ℕ) (idles : has id gone ≡ true) where
    abbrev now : Doing
    now = idle gone (doing_of t f num)

    abbrev Gone : Instr → Type 0
    Gone = Named Never NeverBoth id

    abbrev Goes : ℕ → List Step → List Step → Type 0
    Goes n ss rs = AreLeft ss rs

    does-nothing : (i : Instr) → Gone i → now i ≡ nothing i.id
    does-nothing i e =
        let among : has i.id gone ≡ true = ap (λ x. has x gone) e ∙ idles in
        ap (λ u. cond u (nothing i.id) (doing_of t f num i)) among

    steps-left : {is js : List Instr} → AreInstrs Gone Never NeverBoth is js → AreLeft (done_by now is) (done_by now js)
    steps-left no_instrs = none_left
    steps-left (instr_stays a) = one_left (steps-left a)
    steps-left (instr_changes h a) = absurd h
    steps-left (instr_goes {i = i} {is = is} {js = js} h a) = subst (λ (e : EnteredStep). AreLeft (e.0 ∷ done_by now is) (done_by now js)) (sym (does-nothing i h)) (one_goes {id = i.id} (steps-left a))
    steps-left (instr_comes h a) = absurd h

    ends-left : (place : ℕ → Option ℕ) (b : ℕ) {is js : List Instr} → AreInstrs Gone Never NeverBoth is js → read_at_ends now place b is ≡ read_at_ends now place b js
    ends-left place b no_instrs = refl
    ends-left place b (instr_stays {i = i} a) = λ k. flat_map (lanes_at place b) (now i).1 ++ ends-left place b a k
    ends-left place b (instr_changes h a) = absurd h
    ends-left place b (instr_goes {i = i} {is = is} h a) = (λ k. flat_map (lanes_at place b) (does-nothing i h k).1 ++ read_at_ends now place b is) ∙ ends-left place b a
    ends-left place b (instr_comes h a) = absurd h

    cut-side : (n : ℕ) (bs : List Block) → AreSideBySide Goes now now n bs (map (cut id) bs)
    cut-side n [] = no_more
    cut-side n (b ∷ bs) =
        let a : AreInstrs Gone Never NeverBoth b.instrs (cut id b).instrs = first-instrs (erase-blocks Never NeverBoth id (b ∷ [])) in
        one_more refl refl (steps-left a) (λ place k. ends-left place k a) (cut-side (suc n) bs)

    cut-left : IsLeft (idle_code t f num gone) (idle_code t (deleted f id) num gone)
    cut-left =
        let c = codes-beside Goes (λ n. none_left) now now f.blocks (deleted f id).blocks (cut-side 0 f.blocks) in
        let path : doing_of t f num ≡ doing_of t (deleted f id) num = λ k. λ i. doing-same t f (deleted f id) refl num i k in
        let left : IsLeft (idle_code t f num gone) (code_of now (λ n. place_of n (deleted f id).blocks) (deleted f id).blocks) = record { steps = c.steps; last = c.last; exits = c.exits } in
        subst (λ (d : Doing). IsLeft (idle_code t f num gone) (code_of (idle gone d) (λ n. place_of n (deleted f id).blocks) (deleted f id).blocks)) path left

  deleted-left : (f : Function) (ids : List ℕ) → ((id : ℕ) → has id ids ≡ true → has id gone ≡ true) → IsLeft (idle_code t f num gone) (idle_code t (all_deleted f ids) num gone)
  deleted-left f [] sub = code-left (idle_code t f num gone)
  deleted-left f (id ∷ ids) sub =
      left-then (idle_code t f num gone) (idle_code t (all_deleted f ids) num gone) (idle_code t (deleted (all_deleted f ids) id) num gone)
      (deleted-left f ids (λ x m. sub x (has-later id ids x m))) (cut-left (all_deleted f ids) id (sub id (has-first id ids)))

  -- where none is left, all do what they do
  none-idle : (f : Function) → ((b : Block) (i : Instr) → Member b f.blocks → Member i b.instrs → has i.id gone ≡ false) → idle_code t f num gone ≡ lane_code t f num
  none-idle f other =
      let old : Doing = idle gone (doing_of t f num) in
      let new : Doing = doing_of t f num in
      let place : ℕ → Option ℕ = λ n. place_of n f.blocks in
      let does : (b : Block) (i : Instr) → Member b f.blocks → Member i b.instrs → old i ≡ new i = λ b i m n. ap (λ u. cond u (nothing i.id) (doing_of t f num i)) (other b i m n) in
      bodies-do old new place f.blocks (entries-do old new place f.blocks does) 0 f.blocks does

module _ (t : Target) (f : Function) (num : Numbering) (es : List Edit) (is : IsFunction f.blocks f.next_id) (spare : SpareGone [] f es) where
  abbrev gone : List ℕ
  gone = all_gone [] es

  abbrev left-over : Function
  left-over = all_deleted (all_deferred f es) gone

  other : (b : Block) (i : Instr) → Member b left-over.blocks → Member i b.instrs → has i.id gone ≡ false
  other = not-gone (all_deferred f es) gone (deferred-single f es is)

  pub is-left : IsLeft (standing_code t f num es) (lane_code t (all_edited f es) num)
  is-left =
      subst (λ (g : Function). IsLeft (standing_code t f num es) (lane_code t g num)) (sym (erased-last-law f es spare))
      (subst (IsLeft (standing_code t f num es)) (none-idle t num gone left-over other) (deleted-left t num gone (all_deferred f es) gone (λ id m. m)))

  -- an instruction that is left isn't erased

  abbrev AreOther : Function → Type 0
  AreOther g = (b : Block) (i : Instr) → Member b g.blocks → Member i b.instrs → has i.id gone ≡ false

  steps-other : (is : List Instr) → ((i : Instr) → Member i is → has i.id gone ≡ false) → (g : Function) (s : Step) → Among s (done_by (doing_of t g num) is) → has s.id gone ≡ false
  steps-other [] h g s m = elim m [ ]
  steps-other (i ∷ is) h g s here = h i first
  steps-other (i ∷ is) h g s (there m) = steps-other is (λ j n. h j (later n)) g s m

  bodies-other : (g : Function) (place : ℕ → Option ℕ) (whole : List Block) (n : ℕ) (bs : List Block) → ((b : Block) (i : Instr) → Member b bs → Member i b.instrs → has i.id gone ≡ false)
      → (k : ℕ) (s : Step) → Among s (steps_in (slice_get (bodies_from (doing_of t g num) place whole n bs) k)) → has s.id gone ≡ false
  bodies-other g place whole n [] h k s m = elim m [ ]
  bodies-other g place whole n (b ∷ bs) h zero s m = steps-other b.instrs (λ i o. h b i first o) g s m
  bodies-other g place whole n (b ∷ bs) h (suc k) s m = bodies-other g place whole (suc n) bs (λ c i o p. h c i (later o) p) k s m

  code-other : (g : Function) → AreOther g → (b : ℕ) (s : Step) → Among s (steps_of (lane_code t g num) b) → has s.id gone ≡ false
  code-other g h b s m = bodies-other g (λ n. place_of n g.blocks) g.blocks 0 g.blocks h b s m

  not-erased : (b : ℕ) (s : Step) → Among s (steps_of (lane_code t (all_edited f es) num) b) → has s.id gone ≡ false
  not-erased = code-other (all_edited f es) (subst AreOther (sym (erased-last-law f es spare)) other)

pub standing-law : StandingLaw
standing-law t f num es is spare = left-codes (standing_code t f num es) (lane_code t (all_edited f es) num) (is-left t f num es is spare)

pub standing-table-law : StandingTableLaw
standing-table-law t f num es slots slots' flow rows is spare kept table =
    left-table (standing_code t f num es) (lane_code t (all_edited f es) num) (is-left t f num es is spare) slots slots' flow rows table (λ b s m. kept s.id (not-erased t f num es is spare b s m))

pub edited-rows-law : EditedRowsLaw
edited-rows-law t f es x y z touched slots flow is spare computed rules last numbers laid rows =
    let w : Table = record x { lanes = y.lanes } in
    let still : IsComputed t f w = with-lanes t f (all_edited f es) x y.lanes computed rules last laid.numbers (all-classes-stay f es) numbers in
    rows-update-law t f (all_edited f es) w y z touched (standing_code t f (number_in y.lanes) es) slots flow still (all t f w still rules last) laid rows (standing-law t f (number_in y.lanes) es is spare)
