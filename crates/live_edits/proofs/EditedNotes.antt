-- What an update asks of the notes of touched instructions: the ids that they tell, and the pieces beside their instructions.
use Rattle.std.proofs.Common.{◌≡◌, ◌⊎◌, inl, inr, ◌∙◌, ◌<◌, ◌&&◌, ℕ, true, cond, length, List, sym, subst, refl, eqb-true, eq-eqb}
use Rattle.std.specs.Prelude.{nat_eq}
use Rattle.target_base.specs.declared.types.Target.{Target}
use Rattle.mir_func.specs.Value.{Function}
use Rattle.mir_meaning.specs.Paths.{Among, has}
use Rattle.instr_effects.specs.Steps.{Numbering}
use Rattle.live_lanes.specs.declared.row.LaneRange.{LaneRange}
use Rattle.live_lanes.specs.Coded.{Doing, code_of}
use Rattle.live_lanes.specs.Doing.{doing_of}
use Rattle.live_lanes.specs.Ordered.{place_of}
use Rattle.live_lanes.specs.Table.{Numbers}
use Rattle.live_lanes.proofs.Cells.{both, both-left, both-right}
use Rattle.live_lanes.proofs.Coded.{among-has, has-among}
use Rattle.edit_laws.specs.Chains.{Node}
use Rattle.edit_laws.specs.Deferred.{nothing, idle, idle_code}
use Rattle.live_edits.specs.declared.cells.CellNotes.{CellNotes}
use Rattle.live_edits.specs.declared.cells.Note.{Note}
use Rattle.live_edits.specs.declared.notes.TouchedInstr.{TouchedInstr}
use Rattle.live_edits.specs.EditedRuns.{HaveRows}
use Rattle.live_edits.specs.Noted.{HasNotes, touched_lanes, touches, touched_at}
use Rattle.live_edits.specs.Pieces.{IsThere}
use Rattle.live_edits.specs.Remade.{noted_ids, AreAllNotes}
use Rattle.live_edits.specs.Runs.{Includes, AreSuspects, entry_side, exit_side}
use Rattle.live_edits.proofs.AskMembers.{any-among, among-any}
use Rattle.live_edits.proofs.NotedLists.{has-note}
use Rattle.live_edits.proofs.NotedTouched.{all-notes}

pub includes : (xs : List TouchedInstr) → Includes (touched_at xs) xs
includes xs x m l k =
    let lane : has l (touched_lanes x) ≡ true = among-has l (touched_lanes x) k in
    among-any (λ (y : TouchedInstr). touches y l x.block x.id) x xs m
    (both (nat_eq x.id x.id) (nat_eq x.block x.block && has l (touched_lanes x)) (eq-eqb x.id x.id refl) (both (nat_eq x.block x.block) (has l (touched_lanes x)) (eq-eqb x.block x.block refl) lane))

module _ (t : Target) (f : Function) (num : Numbering) (gone : List ℕ) (xs : List TouchedInstr) (all : List CellNotes) (h : HasNotes t f num gone xs all) where
  -- what is touched has a note
  noted-of : (l b id : ℕ) → touched_at xs l b id ≡ true → (c : CellNotes) × Among c all × (c.lane ≡ l) × (c.block ≡ b) × (has id (noted_ids c.notes.items) ≡ true)
  noted-of l b id e =
      let z = any-among (λ (y : TouchedInstr). touches y l b id) xs e in
      let x = z.0 in
      let rest = both-right (nat_eq x.id id) (nat_eq x.block b && has l (touched_lanes x)) z.2 in
      let own : x.id ≡ id = eqb-true x.id id (both-left (nat_eq x.id id) (nat_eq x.block b && has l (touched_lanes x)) z.2) in
      let block : x.block ≡ b = eqb-true x.block b (both-left (nat_eq x.block b) (has l (touched_lanes x)) rest) in
      let w = h.whole x z.1 l (has-among l (touched_lanes x) (both-right (nat_eq x.block b) (has l (touched_lanes x)) rest)) in
      (w.0, w.1, w.2, w.3 ∙ block, subst (λ n. has n (noted_ids w.0.notes.items) ≡ true) own w.4)

  lane-there : (rows : List LaneRange) → HaveRows rows all → (x : TouchedInstr) → Among x xs → (l : ℕ) → Among l (touched_lanes x) → l < length rows
  lane-there rows have x m l k = let w = h.whole x m l k in subst (λ n. n < length rows) w.2 (have w.0 w.1)

  -- the same instructions do nothing
  pub all-notes-of : (erased : List ℕ) → ((id : ℕ) → has id gone ≡ has id erased) → (rows : List LaneRange) → HaveRows rows all → AreAllNotes (touched_at xs) (idle_code t f num erased) rows all
  all-notes-of erased same rows have =
      let path : idle gone (doing_of t f num) ≡ idle erased (doing_of t f num) = λ k. λ i. cond (same i.id k) (nothing i.id) (doing_of t f num i) in
      subst (λ (d : Doing). AreAllNotes (touched_at xs) (code_of d (λ n. place_of n f.blocks) f.blocks) rows all) path (all-notes t f num gone xs all h rows (lane-there rows have))

  module _ (slots : Numbers) (rows : List LaneRange) (list : List Node) (sus : AreSuspects slots rows all list) where
    abbrev Beside : ℕ → ℕ → ℕ → Type 0
    Beside l b id = Among (entry_side slots rows l b id) list × Among (exit_side slots rows l b id) list

    pub listed-by : (l b id : ℕ) → touched_at xs l b id ≡ true → Beside l b id
    listed-by l b id e =
        let z = noted-of l b id e in
        let n = has-note id z.0.notes.items z.4 in
        let at : Beside z.0.lane z.0.block n.0.id = (sus.entry z.0 z.1 n.0 n.1, sus.exit z.0 z.1 n.0 n.1) in
        subst (λ k. Beside k b id) z.2 (subst (λ k. Beside z.0.lane k id) z.3 (subst (λ k. Beside z.0.lane z.0.block k) n.2 at))

    pub suspects-there : HaveRows rows all → (m : Node) → Among m list → IsThere rows m
    suspects-there have m k = let w = sus.each m k in sus.there m k (lane-of w.0 w.1 w.2.0 w.2.2)
      where
        lane-of : (c : CellNotes) → Among c all → (n : Note) → (m ≡ entry_side slots rows c.lane c.block n.id) ⊎ (m ≡ exit_side slots rows c.lane c.block n.id) → m.0 < length rows
        lane-of c a n (inl e) = subst (λ (x : Node). x.0 < length rows) (sym e) (have c a)
        lane-of c a n (inr e) = subst (λ (x : Node). x.0 < length rows) (sym e) (have c a)
