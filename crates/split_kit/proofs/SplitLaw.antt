-- The edits of a split, block by block, split the range.
use Rattle.std.proofs.Common.{◌≡◌, ◌∷◌, ◌++◌, ◌+◌, ◌-◌, ◌&&◌, not, ℕ, suc, Bool, true, false, List, [], Option, Some, refl, sym, ap, subst, length, take, append_assoc, append-nil}
use Rattle.std.specs.Prelude.{flat_map, slice_get}
use Rattle.std.specs.List.{list_all}
use Rattle.target_base.specs.declared.types.ClassId.{ClassId}
use Rattle.target_base.specs.declared.types.Target.{Target}
use Rattle.target_base.specs.Rules.{is_phi}
use Rattle.meaning.specs.Live.{Among}
use Rattle.mir_func.specs.declared.func.Block.{Block}
use Rattle.mir_func.specs.declared.func.Instr.{Instr}
use Rattle.mir_func.specs.Value.{Function, IsFunction}
use Rattle.mir_func.specs.Binding.{does}
use Rattle.mir_meaning.specs.Points.{Point}
use Rattle.mir_meaning.specs.Registers.{has_number}
use Rattle.mir_meaning.specs.Rules.{V5, block_numbers, successors_of, named_blocks}
use Rattle.live_lanes.specs.declared.ask.labels.Mark.{Mark}
use Rattle.live_edits.proofs.JoiningLaw.{all-blocks-true, has-opcode}
use Rattle.live_edits.proofs.JoiningMembers.{among-first, among-later}
use Rattle.split_kit.specs.PartEdits.{block_edits, split_edits, HasParts, classed, SplitEditsLaw}
use Rattle.split_kit.specs.Split.{block_split, blocks_split, number_behind, split_by, start_label}
use Rattle.split_kit.proofs.EditRuns.{IsRun, ended, run-all, run-places, run-spares, run-then}
use Rattle.split_kit.proofs.SplitEdits.{Fit, instrs-run, run-function}

-- each block has another number than those before it
abbrev pub AreNew : List ℕ → List Block → Type 0
AreNew ns [] = Unit {0}
AreNew ns (b ∷ bs) = (has_number ns b.number ≡ false) × AreNew (ns ++ b.number ∷ []) bs

all-new : (ns : List ℕ) (bs : List Block) → ((k : ℕ) (b : Block) → slice_get bs k ≡ Some b → has_number (ns ++ block_numbers (take k bs)) b.number ≡ false) → AreNew ns bs
all-new ns [] h = tt
all-new ns (b ∷ bs) h = (
  subst (λ ms. has_number ms b.number ≡ false) (append-nil ns) (h 0 b refl),
  all-new (ns ++ b.number ∷ []) bs (λ k c e. subst (λ ms. has_number ms c.number ≡ false) (sym (append_assoc ns (b.number ∷ []) (block_numbers (take k bs)))) (h (suc k) c e)),
)

numbers-both : (bs cs : List Block) → block_numbers (bs ++ cs) ≡ block_numbers bs ++ block_numbers cs
numbers-both [] cs = refl
numbers-both (b ∷ bs) cs = ap (λ ns. b.number ∷ ns) (numbers-both bs cs)

not-true : (u : Bool) → not u ≡ true → u ≡ false
not-true true h = absurd (let z : false ≡ true = h in cc)
not-true false h = refl

first-true : (u w : Bool) → u && w ≡ true → u ≡ true
first-true true w h = refl
first-true false w h = h

other-number : (f : Function) (k : ℕ) (b : Block) → V5 f k b ≡ true → has_number (block_numbers (take k f.blocks)) b.number ≡ false
unfolding V5
other-number f k b h = not-true (has_number (block_numbers (take k f.blocks)) b.number) (first-true (not (has_number (block_numbers (take k f.blocks)) b.number)) (list_all (has_number (block_numbers f.blocks)) (successors_of b ++ flat_map named_blocks b.instrs)) h)

module _ (t : Target) (live : Point → Bool) (f : Function) (v : ℕ) (ms : List Mark) (g : Function) where
  abbrev at : List Block → ℕ → Function
  at bs n = record g { blocks = bs; next_id = n }

  blocks-run : (pre : List Block) (n : ℕ) (bs : List Block) → IsFunction (pre ++ bs) n → AreNew (block_numbers pre) bs → ((i : Instr) → Among i (flat_map (λ (b : Block). b.instrs) bs) → Fit t v i)
      → IsRun t (at (pre ++ bs) n) (flat_map (block_edits live f v ms) bs) (at (pre ++ blocks_split live f v ms n bs) (number_behind live f v ms n bs))
  blocks-run pre n [] is_function new fit = ended
  blocks-run pre n (b ∷ bs) is_function new fit =
      let s : Block = block_split live f v ms n b in
      let m : ℕ = n + (length s.instrs - length b.instrs) in
      let first : IsRun t (at (pre ++ b ∷ bs) n) (block_edits live f v ms b) (at (pre ++ s ∷ bs) m) =
      instrs-run t live f v ms g pre b bs new.0 [] n (start_label ms b.number) b.instrs is_function (λ i a. fit i (among-first i b.instrs (flat_map (λ (c : Block). c.instrs) bs) a)) in
      let in-front : (xs : List Block) → (pre ++ s ∷ []) ++ xs ≡ pre ++ s ∷ xs = (λ xs. append_assoc pre (s ∷ []) xs) in
      let still : IsFunction (pre ++ s ∷ bs) m = run-function t (at (pre ++ b ∷ bs) n) (at (pre ++ s ∷ bs) m) (block_edits live f v ms b) first is_function in
      let rest : IsRun t (at ((pre ++ s ∷ []) ++ bs) m) (flat_map (block_edits live f v ms) bs) (at ((pre ++ s ∷ []) ++ blocks_split live f v ms m bs) (number_behind live f v ms m bs)) =
      blocks-run (pre ++ s ∷ []) m bs (subst (λ cs. IsFunction cs m) (sym (in-front bs)) still) (subst (λ ns. AreNew ns bs) (sym (numbers-both pre (s ∷ []))) new.1) (λ i a. fit i (among-later i b.instrs (flat_map (λ (c : Block). c.instrs) bs) a)) in
      run-then t (at (pre ++ b ∷ bs) n) (at (pre ++ s ∷ bs) m) (at (pre ++ s ∷ blocks_split live f v ms m bs) (number_behind live f v ms m bs)) (block_edits live f v ms b) (flat_map (block_edits live f v ms) bs) first
      (subst (λ cs. IsRun t (at cs m) (flat_map (block_edits live f v ms) bs) (at (pre ++ s ∷ blocks_split live f v ms m bs) (number_behind live f v ms m bs))) (in-front bs)
      (subst (λ cs. IsRun t (at ((pre ++ s ∷ []) ++ bs) m) (flat_map (block_edits live f v ms) bs) (at cs (number_behind live f v ms m bs))) (in-front (blocks_split live f v ms m bs)) rest))

fits-all : (t : Target) (f : Function) (v : ℕ) → HasParts t f v → (i : Instr) → Among i (flat_map (λ (b : Block). b.instrs) f.blocks) → Fit t v i
fits-all t f v has i a = record {
  opcode = has-opcode t f has.known i a;
  plain = not-true (does is_phi t i) (all-blocks-true (λ (x : Instr). not (does is_phi t x)) f.blocks has.phis i a);
  named = has.named i a;
}

split-run : (t : Target) (live : Point → Bool) (f : Function) (v : ℕ) (ms : List Mark) (cs : List (Option ClassId)) → HasParts t f v → IsRun t (classed cs f) (split_edits live f v ms) (classed cs (split_by live f v ms))
unfolding split_by
split-run t live f v ms cs has =
    blocks-run t live f v ms (classed cs f) [] f.next_id f.blocks has.function (all-new [] f.blocks (λ k b e. other-number f k b (has.numbers k b e))) (fits-all t f v has)

pub split-edits-law : SplitEditsLaw
split-edits-law t live f v ms cs has =
    let g : Function = classed cs f in
    let h : Function = classed cs (split_by live f v ms) in
    let es = split_edits live f v ms in
    let r : IsRun t g es h = split-run t live f v ms cs has in
    record { split = run-all t g h es r; places = run-places t g h es r; spare = run-spares t g h es r }
