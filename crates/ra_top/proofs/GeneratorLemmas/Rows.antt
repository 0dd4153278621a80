-- Lines one after the other, and where the source of numbers then is.
use Rattle.std.proofs.Common.{◌≡◌, ℕ, ◌+◌, List, [], ◌++◌, add-one, append_assoc, append-nil, ap, sym, ◌∙◌, refl}
use Rattle.std.specs.Prelude.{OnOk, Result, codes}
use Rattle.std.specs.Fmt.{decimal}
use Rattle.std.proofs.lemmas.Result.{on_ok_weaker}
use Rattle.ra_top.specs.declared.generator.source.InstrNumbers.{InstrNumbers}
use Rattle.ra_top.specs.declared.generator.source.Jump.{Jump}
use Rattle.ra_top.specs.Generator.Text.{next, drawn, numbers, behind_instr, jump, behind_jump, register_line, instr_line, jump_lines, behind_registers, register_lines, behind_instrs, instr_lines, block_lines, behind_block, behind_blocks, blocks_lines, head_lines, last_lines, generated_text}

-- nothing is added, and nothing is drawn

pub no_registers : (x : ℕ) (o : List ℕ) → (o ≡ o ++ register_lines 0 x) × (x ≡ behind_registers 0 x)
unfolding register_lines behind_registers
no_registers x o = (sym (append-nil o), refl)

pub no_instrs : (x : ℕ) (o : List ℕ) → (o ≡ o ++ instr_lines 0 x) × (x ≡ behind_instrs 0 x)
unfolding instr_lines behind_instrs
no_instrs x o = (sym (append-nil o), refl)

pub no_blocks : (x : ℕ) (o : List ℕ) → (o ≡ o ++ blocks_lines 0 x) × (x ≡ behind_blocks 0 x)
unfolding blocks_lines behind_blocks
no_blocks x o = (sym (append-nil o), refl)

-- one line or block more

registers_lines_more : (v x : ℕ) → register_lines (v + 1) x ≡ register_lines v x ++ register_line v (drawn (next (behind_registers v x)) 1000)
unfolding register_lines
registers_lines_more v x = rw (add-one v) refl

behind_registers_more : (v x : ℕ) → behind_registers (v + 1) x ≡ next (behind_registers v x)
unfolding behind_registers
behind_registers_more v x = rw (add-one v) refl

instr_lines_more : (k x : ℕ) → instr_lines (k + 1) x ≡ instr_lines k x ++ instr_line (numbers (behind_instrs k x))
unfolding instr_lines
instr_lines_more k x = rw (add-one k) refl

behind_instrs_more : (k x : ℕ) → behind_instrs (k + 1) x ≡ behind_instr (behind_instrs k x)
unfolding behind_instrs
behind_instrs_more k x = rw (add-one k) refl

blocks_lines_more : (b x : ℕ) → blocks_lines (b + 1) x ≡ blocks_lines b x ++ block_lines (b + 1) (behind_blocks b x)
unfolding blocks_lines
blocks_lines_more b x = rw (add-one b) refl

behind_blocks_more : (b x : ℕ) → behind_blocks (b + 1) x ≡ behind_block (behind_blocks b x)
unfolding behind_blocks
behind_blocks_more b x = rw (add-one b) refl

-- a text behind one that stands
more : (o0 o o2 a b ab : List ℕ) → o ≡ o0 ++ a → o2 ≡ o ++ b → ab ≡ a ++ b → o2 ≡ o0 ++ ab
more o0 o o2 a b ab e e2 is = rw (e2, e, is) (append_assoc o0 a b)

pub one_register : (v n x y z : ℕ) (o0 o o2 : List ℕ) → (o ≡ o0 ++ register_lines v x) × (y ≡ behind_registers v x) → (n ≡ drawn (next y) 1000) × (z ≡ next y) → o2 ≡ o ++ register_line v n → (o2 ≡ o0 ++ register_lines (v + 1) x) × (z ≡ behind_registers (v + 1) x)
one_register v n x y z o0 o o2 h d e =
    let at = behind_registers v x in
    let en : n ≡ drawn (next at) 1000 = d.0 ∙ ap (λ (q : ℕ). drawn (next q) 1000) h.1 in
    let line = e ∙ ap (λ (q : ℕ). o ++ register_line v q) en in
    (more o0 o o2 (register_lines v x) (register_line v (drawn (next at) 1000)) _ h.0 line (registers_lines_more v x), d.1 ∙ (ap next h.1 ∙ sym (behind_registers_more v x)))

pub one_instr : (k x y z : ℕ) (n : InstrNumbers) (o0 o o2 : List ℕ) → (o ≡ o0 ++ instr_lines k x) × (y ≡ behind_instrs k x) → (n ≡ numbers y) × (z ≡ behind_instr y) → o2 ≡ o ++ instr_line n → (o2 ≡ o0 ++ instr_lines (k + 1) x) × (z ≡ behind_instrs (k + 1) x)
one_instr k x y z n o0 o o2 h d e =
    let at = behind_instrs k x in
    let en : n ≡ numbers at = d.0 ∙ ap (λ (q : ℕ). numbers q) h.1 in
    let line = e ∙ ap (λ (q : InstrNumbers). o ++ instr_line q) en in
    (more o0 o o2 (instr_lines k x) (instr_line (numbers at)) _ h.0 line (instr_lines_more k x), d.1 ∙ (ap (λ (q : ℕ). behind_instr q) h.1 ∙ sym (behind_instrs_more k x)))

pub one_block : (b x y z : ℕ) (o0 o o2 : List ℕ) → (o ≡ o0 ++ blocks_lines b x) × (y ≡ behind_blocks b x) → (o2 ≡ o ++ block_lines (b + 1) y) × (z ≡ behind_block y) → (o2 ≡ o0 ++ blocks_lines (b + 1) x) × (z ≡ behind_blocks (b + 1) x)
one_block b x y z o0 o o2 h d =
    let at = behind_blocks b x in
    let line = d.0 ∙ ap (λ (q : ℕ). o ++ block_lines (b + 1) q) h.1 in
    (more o0 o o2 (blocks_lines b x) (block_lines (b + 1) at) _ h.0 line (blocks_lines_more b x), d.1 ∙ (ap (λ (q : ℕ). behind_block q) h.1 ∙ sym (behind_blocks_more b x)))

joined : (o4 o3 o2 o1 o0 a n c d js : List ℕ) → o1 ≡ o0 ++ (a ++ n) → o2 ≡ o1 ++ c → o3 ≡ o2 ++ d → o4 ≡ o3 ++ js → o4 ≡ o0 ++ (a ++ (n ++ (c ++ (d ++ js))))
joined o4 o3 o2 o1 o0 a n c d js e1 e2 e3 e4 = rw (e4, e3, e2, e1) (simp append_assoc)

-- the parts of a block
pub block_of_parts : {T E : Type 0} (r : Result T E) (b x y z : ℕ) (j : Jump) (o0 o1 o2 o3 o4 : List ℕ) → o1 ≡ o0 ++ (codes "  bb." ++ decimal b) → o2 ≡ o1 ++ codes ":\n" → (o3 ≡ o2 ++ instr_lines 12 x) × (y ≡ behind_instrs 12 x) → (j ≡ jump y) × (z ≡ behind_jump y) → OnOk r (o4 ≡ o3 ++ jump_lines j) → OnOk r ((o4 ≡ o0 ++ block_lines b x) × (z ≡ behind_block x))
block_of_parts r b x y z j o0 o1 o2 o3 o4 e1 e2 h d =
    let ej : j ≡ jump (behind_instrs 12 x) = d.0 ∙ ap (λ (q : ℕ). jump q) h.1 in
    on_ok_weaker r (λ e. (joined o4 o3 o2 o1 o0 (codes "  bb.") (decimal b) (codes ":\n") (instr_lines 12 x) (jump_lines (jump (behind_instrs 12 x))) e1 e2 h.0 (e ∙ ap (λ (q : Jump). o3 ++ jump_lines q) ej), d.1 ∙ ap (λ (q : ℕ). behind_jump q) h.1))

four : (o0 o1 o2 o3 o4 a b c d : List ℕ) → o0 ≡ [] → o1 ≡ o0 ++ a → o2 ≡ o1 ++ b → o3 ≡ o2 ++ c → o4 ≡ o3 ++ d → o4 ≡ a ++ (b ++ (c ++ d))
four o0 o1 o2 o3 o4 a b c d e0 e1 e2 e3 e4 = rw (e4, e3, e2, e1, e0) (simp append_assoc)

-- the parts of the text
pub text_of_parts : (seed y : ℕ) (o0 o1 o2 o3 o4 : List ℕ) → o0 ≡ [] → o1 ≡ o0 ++ head_lines → (o2 ≡ o1 ++ register_lines 24 seed) × (y ≡ behind_registers 24 seed) → o3 ≡ o2 ++ blocks_lines 400 y → o4 ≡ o3 ++ last_lines → o4 ≡ generated_text seed
text_of_parts seed y o0 o1 o2 o3 o4 e0 e1 h e3 e4 =
    four o0 o1 o2 o3 o4 head_lines (register_lines 24 seed) (blocks_lines 400 (behind_registers 24 seed)) last_lines e0 e1 h.0 (e3 ∙ ap (λ (q : ℕ). o2 ++ blocks_lines 400 q) h.1) e4
