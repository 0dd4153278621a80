-- A function whose blocks can be spelled, and which keeps the rules on classes, operands and successors, is writable where it
-- has the head of one that is.
use Rattle.std.proofs.Common.{◌≡◌, ◌∷◌, ◌++◌, ◌<◌, ◌≤◌, ◌∙◌, ◌&&◌, ◌||◌, not, ℕ, Bool, true, false, cond, List, Option, Some, None, drop, length, map, refl, sym, ap, subst, arith, suc, []}
use Rattle.std.specs.Prelude.{option_to_list, slice_get}
use Rattle.std.specs.List.{list_all, list_any}
use Rattle.std.proofs.lemmas.Bool.{and_right}
use Rattle.target_base.specs.declared.types.Target.{Target}
use Rattle.target_base.specs.Names.{are_distinct_numbers}
use Rattle.target_base.proofs.Tests.{second_of_both}
use Rattle.meaning.specs.Live.{Among}
use Rattle.mir_func.specs.declared.func.Edge.{Edge}
use Rattle.mir_func.specs.declared.func.Instr.{Instr}
use Rattle.mir_func.specs.declared.func.Block.{Block}
use Rattle.mir_func.specs.Value.{Function}
use Rattle.mir_func.specs.Binding.{does, is_branch}
use Rattle.mir_meaning.specs.Codes.{falls_through, fallen_into, first_number, is_open}
use Rattle.mir_meaning.specs.Registers.{has_number}
use Rattle.mir_meaning.specs.Rules.{V1, V3, V9, branch_targets, lists_once, successors_of}
use Rattle.mir_text.specs.Document.{lines}
use Rattle.mir_read.specs.Keys.{no_keys}
use Rattle.mir_read.specs.Names.{name_lists}
use Rattle.mir_read.specs.Body.{due_blocks, fallen, with_numbers}
use Rattle.live_laws.specs.Effects.Shaped.{AreClasses}
use Rattle.live_laws.proofs.Effects.Blocks.{slice-member}
use Rattle.lowering_laws.proofs.Formed.{none-by}
use Rattle.writable_laws.specs.Writable.{HasHead, IsWritable, keys_behind}
use Rattle.writable_laws.proofs.Fitting.{BlockFits, spelled-of}

none-within : (ns : List ℕ) → list_all (has_number []) ns ≡ true → ns ≡ []
none-within [] e = refl
none-within (n ∷ ns) e = absurd (cc)

left-none : (ms ns : List ℕ) → ms ++ ns ≡ [] → ms ≡ []
left-none [] ns e = refl
left-none (m ∷ ms) ns e = absurd (cc)

right-none : (ms ns : List ℕ) → ms ++ ns ≡ [] → ns ≡ []
right-none [] ns e = e
right-none (m ∷ ms) ns e = absurd (cc)

no-edges : (es : List Edge) → length es ≡ 0 → es ≡ []
no-edges [] e = refl
no-edges (x ∷ es) e = absurd (omega arith)

either-or : (a b c : Bool) → a ≡ false → b ≡ false → (a || b || c) ≡ true → c ≡ true
either-or true b c e h g = absurd (cc)
either-or false true c e h g = absurd (cc)
either-or false false c e h g = g

-- Where each branch keeps rule 1, a block of which no successors are written leads nowhere.
module _ (t : Target) (g : Function) (k : ℕ) (b : Block) (nine : V9 t g k b ≡ true) (ones : (i : Instr) → Among i b.instrs → V1 t g i ≡ true) where
  asked : list_any (λ i. does is_branch t i && not (V1 t g i)) b.instrs ≡ false
  asked = none-by (λ i. does is_branch t i && not (V1 t g i)) b.instrs (λ i m. and_right (does is_branch t i) (not (V1 t g i)) (ap not (ones i m)))

  abbrev after : List Block
  after = drop (suc k) g.blocks

  abbrev due : List ℕ
  due = branch_targets t b.instrs ++ option_to_list (fallen_into t b after)

  unfolding-nine : is_open t b ≡ false → lists_once (successors_of b) due ≡ true
  unfolding V9
  unfolding-nine e = either-or (list_any (λ i. does is_branch t i && not (V1 t g i)) b.instrs) (is_open t b) (lists_once (successors_of b) due) asked e nine

  module _ (none : length b.successors ≡ 0) (shut : is_open t b ≡ false) where
    listed : successors_of b ≡ []
    listed = ap (λ (es : List Edge). map (λ (e : Edge). e.block) es) (no-edges b.successors none)

    due-none : due ≡ []
    due-none = none-within due (second_of_both (are_distinct_numbers [] && list_all (has_number due) []) (list_all (has_number []) due) (subst (λ ms. lists_once ms due ≡ true) listed (unfolding-nine shut)))

    falls : (y : Bool) (q : Option ℕ) → option_to_list (cond (y && not (is_open t b)) q None) ≡ [] → fallen y q ≡ []
    falls true q e = (λ j. option_to_list (cond (not (sym shut j)) q None)) ∙ e
    falls false q e = refl

    pub none-due : due_blocks t b.instrs (first_number after) ≡ []
    unfolding due_blocks
    none-due =
        let left = left-none (branch_targets t b.instrs) (option_to_list (fallen_into t b after)) due-none in
        let right = falls (falls_through t b.instrs) (first_number after) (right-none (branch_targets t b.instrs) (option_to_list (fallen_into t b after)) due-none) in
        λ j. with_numbers (with_numbers [] (left j)) (right j)

pub head-stays : (t : Target) (f g : Function) → g.head ≡ f.head → g.name ≡ f.name → g.frames ≡ f.frames → HasHead t f → HasHead t g
head-stays t f g head name frames h = record {
  keys = h.keys;
  stand = (λ k. keys_behind (name_lists t) no_keys (lines (head k))) ∙ h.stand;
  body = h.body;
  name = h.name ∙ ap Some (sym name);
  frames = h.frames ∙ sym frames;
  whole = h.whole ∙ sym head;
}

-- the function as a whole
pub writable-behind :
    (t : Target) (f g : Function) → IsWritable t f → g.head ≡ f.head → g.name ≡ f.name → g.frames ≡ f.frames
    → length g.classes ≤ 2147483648 → AreClasses t g → 0 < length g.blocks
    → ((b : Block) → Among b g.blocks → BlockFits t b)
    → ((b : Block) (i : Instr) → Among b g.blocks → Among i b.instrs → V1 t g i ≡ true)
    → ((b : Block) (i : Instr) → Among b g.blocks → Among i b.instrs → V3 g i ≡ true)
    → ((k : ℕ) (b : Block) → slice_get g.blocks k ≡ Some b → V9 t g k b ≡ true)
    → IsWritable t g
writable-behind t f g w head name frames few classes some fits ones threes nines = record {
  names = w.names;
  head = head-stays t f g head name frames w.head;
  ranges = few;
  classes = classes;
  begun = some;
  headers = λ b m. (fits b m).header;
  instrs = λ b i mb mi. spelled-of t g i ((fits b mb).instrs i mi) (threes b i mb mi);
  successors = λ k b e. record {
    nine = nines k b e;
    unwritten = none-due t g k b (nines k b e) (λ i m. ones b i (slice-member g.blocks k b e) m);
  };
}
