-- The examples.
use Rattle.std.proofs.Common.{◌≡◌, ◌∷◌, ◌++◌, ◌∙◌, ◌&&◌, ◌||◌, not, ℕ, Bool, true, false, cond, List, length, Option, Some, None, refl, sym, ap, arith, [], zero, suc, subst}
use Rattle.std.specs.Prelude.{codes, if◌then◌else◌, nat_eq, option_to_list, slice_get}
use Rattle.target_base.specs.declared.types.Target.{Target}
use Rattle.std.specs.List.{list_all}
use Rattle.mir_lines.specs.Bytes.{is_label_byte, behind_word, before_word, skip, skip_back}
use Rattle.mir_lines.specs.Instructions.{begins_tail, tail_at, without_comment}
use Rattle.mir_lines.specs.Numbers.{digit_value, numeral}
use Rattle.mir_lines.specs.Parts.{joined}
use Rattle.mir_lines.specs.Operands.{operand_at, operand_behind, unflagged, wordless_at}
use Rattle.mir_lines.specs.Reads.{◌>>=◌}
use Rattle.mir_lines.specs.Symbols.{bare_symbol_at, base_in, begins_symbol, named_symbol_at, quoted_symbol_at, signed_in, symbol_at, with_offset}
use Rattle.mir_lines.specs.declared.raw.RawOperand.{RawOperand}
use Rattle.mir_lines.specs.Registers.{continues, is_flag_ahead, is_tail_word, words_at}
use Rattle.mir_read.specs.Keys.{body_begun, colon_cut, continued, declared, declared_frame, declared_number, found, is_body_value, is_key, kept, key_begun, key_line, key_named, name_begun, name_value, no_keys, unquoted}
use Rattle.mir_read.specs.Names.{name_lists}
use Rattle.mir_read.specs.declared.keys.Key.TheVariants as key
use Rattle.mir_read.specs.declared.keys.Keys.{Keys}
use Rattle.meaning.specs.Live.{Among}
use Rattle.mir_func.specs.declared.func.Block.{Block}
use Rattle.mir_meaning.specs.Rules.{V9, lists_once}
use Rattle.mir_read.specs.Body.{due_blocks}
use Rattle.instr_effects.proofs.Members.{member-elim, member-none}
use Rattle.mir_text.specs.Document.{lines}
use Rattle.writable_laws.specs.Examples.{BoundsImmediates, RefusesHead, RefusesHeaders, RefusesOperands, RefusesText, TakesFunction, TakesHead, TakesSymbols, TakesText, body_line, name_line, one_block, slot_lines}
use Rattle.writable_laws.specs.Writable.{CanSpellHeader, HasSuccessors, keys_behind}

pub bounds_immediates : BoundsImmediates
bounds_immediates = (omega arith, λ h. omega arith, omega arith, λ h. omega arith)

pub takes_text : TakesText
unfolding tail_at without_comment begins_tail skip behind_word is_tail_word continues words_at is_flag_ahead joined
takes_text = (
  record { read = refl; bare = refl; line = refl },
  record { read = refl; bare = refl; line = refl },
  record { read = refl; bare = refl; line = refl },
  record { words = codes "frame-setup" ∷ codes "nsw" ∷ []; read = refl; spelled = refl },
  record { words = []; read = refl; spelled = refl },
  record { ascii = refl; bare = refl; line = refl },
)

pub refuses_operands : RefusesOperands
refuses_operands = (
  λ t f r x h. (let e = h.1 in cc),
  λ t f h. (let e = h.0 in omega arith),
  λ t f v h. (let e = h.1 in omega arith),
  λ t f h. omega arith,
  λ u d use_is def_is plain. (λ k. cond (use_is k && not u.implicit) (cond (d.def && not d.implicit) true true) (not (d.def && not d.implicit || false))) ∙ (λ k. not (def_is k && not (plain k) || false)),
)

pub refuses_headers : RefusesHeaders
refuses_headers = (
  λ t b e h. (let z : false ≡ true = ap (list_all is_label_byte) (sym e) ∙ h.name in cc),
  λ t b e h. (let z = h.number in omega (arith, e)),
  λ x e h. (let z = h.prob in omega (arith, e)),
)

-- what a text spells that begins a symbol, where the target opts in these forms
abbrev symbol_by : Bool → Bool → List ℕ → Option (RawOperand × List ℕ)
symbol_by pool offsets text = (base_in text (if pool then behind_word (codes "%const.") text else None) >>= λ s. (if offsets then signed_in s.0 s.1 (skip s.1) else Some (s.0, s.1))) >>= unflagged

abbrev rest_of : Option (RawOperand × List ℕ) → ℕ
rest_of None = 0
rest_of (Some p) = length p.1

some-left : ◌≡◌ {A = ℕ} 2 0 → ⊥
some-left e = absurd (let z : false ≡ true = ap (λ n. nat_eq n 0) e in cc)

pub takes_symbols : TakesSymbols
unfolding operand_at operand_behind wordless_at begins_symbol symbol_at named_symbol_at bare_symbol_at quoted_symbol_at with_offset words_at is_flag_ahead is_tail_word continues skip behind_word
takes_symbols t pool offsets = (
  record { flags = []; read = λ k. symbol_by (pool k) (offsets k) (codes "@g"); known = refl; line = refl },
  record { flags = []; read = λ k. symbol_by (pool k) (offsets k) (codes "@\"a b\""); known = refl; line = refl },
  λ h. some-left (ap rest_of (sym (λ k. symbol_by (pool k) (offsets k) (codes "@g h")) ∙ h.read)),
  λ h. (let e = sym (λ k. symbol_by (pool k) (offsets k) (codes "@")) ∙ h.read in cc),
)

pub takes_head : TakesHead
unfolding lines key_line found key_begun key_named name_begun name_value body_begun is_body_value colon_cut continued declared declared_frame declared_number kept unquoted skip skip_back behind_word before_word numeral digit_value
takes_head t = record { keys = _; stand = refl; body = refl; name = refl; frames = refl; whole = refl }

some-same : {A : Type 0} (x y : A) → Some x ≡ Some y → x ≡ y
some-same x y e = cc

words-same : (x y : List (List ℕ)) → ◌≡◌ {A = Option (List (List ℕ) × List ℕ)} (Some (x, [])) (Some (y, [])) → x ≡ y
words-same x y e = ap first (some-same {A = List (List ℕ) × List ℕ} (x, []) (y, []) e)
  where
    first : List (List ℕ) × List ℕ → List (List ℕ)
    first p = p.0

no-comment : without_comment (codes ":: a ; b") ≡ codes ":: a ; b" → ⊥
unfolding without_comment
no-comment e = absurd (let z : false ≡ true = ap (λ (xs : List ℕ). nat_eq (length xs) 8) e in cc)

abbrev rest : Option (List (List ℕ) × List ℕ) → ℕ
rest None = 0
rest (Some p) = length p.1

none-left : ◌≡◌ {A = ℕ} 14 0 → ⊥
none-left e = absurd (let z : false ≡ true = ap (λ n. nat_eq n 0) e in cc)

pub refuses_text : RefusesText
unfolding tail_at without_comment begins_tail skip behind_word is_tail_word continues words_at is_flag_ahead joined
refuses_text = (
  λ h. (let e = h.read in cc),
  λ h. (let e = h.read in cc),
  λ h. no-comment h.bare,
  λ h. (let e : joined (codes " ") (codes "frame-setup" ∷ codes "nsw" ∷ []) ≡ codes "frame-setup  nsw" = ap (joined (codes " ")) (words-same (codes "frame-setup" ∷ codes "nsw" ∷ []) h.words h.read) ∙ h.spelled in cc),
  λ h. none-left (ap rest h.read),
  λ h. (let e = h.line in cc),
)

module _ (t : Target) where
  keys-same : (head : List ℕ) (k h : Keys) → keys_behind (name_lists t) no_keys (lines head) ≡ Some k → keys_behind (name_lists t) no_keys (lines head) ≡ Some h → k ≡ h
  keys-same head k h e g = some-same k h (sym e ∙ g)

longer : ◌≡◌ {A = ℕ} 16 15 → ⊥
longer e = absurd (let z : false ≡ true = ap (λ n. nat_eq n 15) e in cc)

other : ◌≡◌ {A = List (ℕ × Bool)} ((7, true) ∷ []) ((8, true) ∷ []) → ⊥
other e = absurd (let z : false ≡ true = ap (λ xs. nat_eq (first xs) 8) e in cc)
  where
    first : List (ℕ × Bool) → ℕ
    first [] = 0
    first (p ∷ ps) = p.0

pub refuses_head : RefusesHead
unfolding lines key_line found key_begun key_named name_begun name_value body_begun is_body_value colon_cut continued declared declared_frame declared_number kept unquoted skip skip_back behind_word before_word numeral digit_value
refuses_head t = (
  λ h. (let e = (λ k. is_key ((keys-same t name_line _ h.keys refl h.stand) k).key key.Body) ∙ h.body in cc),
  λ h. (let e = h.stand in cc),
  λ h. (let e = h.stand in cc),
  λ h. (let e = (λ k. ((keys-same t (name_line ++ codes "body: |") _ h.keys refl h.stand) k).head) ∙ h.whole in longer (ap length e)),
  λ h. other ((λ k. ((keys-same t (name_line ++ (slot_lines ++ body_line)) _ h.keys refl h.stand) k).frames) ∙ h.frames),
)

-- the only block of the function

block-header : (t : Target) → CanSpellHeader t (record { number = 3; name = codes "entry.1"; attributes = codes "align 4"; successors = []; liveins = []; instrs = [] })
unfolding without_comment
block-header t = record {
  number = omega arith;
  name = refl;
  attributes = record { ascii = refl; bare = refl; line = refl };
  successors = λ e m. absurd (member-none e m);
  liveins = λ r m. absurd (member-none r m);
}

leads-nowhere : (y : Bool) → (false || (y && true && true) || lists_once [] ([] ++ option_to_list (cond {A = Option ℕ} (true && not (y && true && true)) None None))) ≡ true
leads-nowhere true = refl
leads-nowhere false = refl

block-successors : (t : Target) (k : ℕ) (b : Block) → slice_get one_block.blocks k ≡ Some b → HasSuccessors t one_block k b
unfolding V9 due_blocks
block-successors t zero b e = subst (HasSuccessors t one_block 0) (some-same (record { number = 3; name = codes "entry.1"; attributes = codes "align 4"; successors = []; liveins = []; instrs = [] }) b e) (record { nine = leads-nowhere t.options.open_blocks; unwritten = λ none shut. refl })
block-successors t (suc k) b e = absurd (cc)

pub takes_function : TakesFunction
takes_function t names =
    let h = takes_head t in
    record {
      names = names;
      head = record { keys = h.keys; stand = h.stand; body = h.body; name = h.name; frames = h.frames; whole = h.whole };
      ranges = omega arith;
      classes = λ v c e. absurd (cc);
      begun = omega arith;
      headers = λ b m. member-elim b (record { number = 3; name = codes "entry.1"; attributes = codes "align 4"; successors = []; liveins = []; instrs = [] }) [] (λ e. subst (CanSpellHeader t) (sym e) (block-header t)) (λ k. absurd (member-none b k)) m;
      instrs = λ b i mb mi. absurd (member-elim b (record { number = 3; name = codes "entry.1"; attributes = codes "align 4"; successors = []; liveins = []; instrs = [] }) [] (λ e. member-none i (subst (λ (x : Block). Among i x.instrs) e mi)) (λ k. member-none b k) mb);
      successors = block-successors t;
    }
