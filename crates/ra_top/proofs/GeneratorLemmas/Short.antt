-- How long the text is.
use Rattle.std.proofs.Common.{◌≡◌, ℕ, ◌+◌, ◌*◌, ◌<◌, ◌≤◌, ◌/◌, List, ◌++◌, length, codes, arith, length-append, zero, suc, refl}
use Rattle.std.specs.Prelude.{Bool, true, false, ◌==◌, if◌then◌else◌}
use Rattle.std.specs.Fmt.{decimal}
use Rattle.std.proofs.lemmas.Fmt.{length-decimal-le}
use Rattle.std.proofs.Math.Nat.{mod-lt}
use Rattle.ra_top.specs.Generator.Text.{next, drawn, numbers, jump, register_line, operation_line, move_line, store_line, instr_line, jump_lines, behind_registers, register_lines, behind_instrs, instr_lines, block_lines, behind_blocks, blocks_lines, head_lines, last_lines, generated_text}

both : (a b : List ℕ) {m n : ℕ} → length a ≤ m → length b ≤ n → length (a ++ b) ≤ m + n
both a b h k = omega (arith, length-append a b, h, k)

itself : (a : List ℕ) → length a ≤ length a
itself a = omega arith

digits : (n : ℕ) → n < 1000 → length (decimal n) ≤ 3
digits n h = length-decimal-le 3 n (omega arith) h (omega (arith, h))

-- of two texts one
either : (b : Bool) (x y : List ℕ) (k : ℕ) → length x ≤ k → length y ≤ k → length (if b then x else y) ≤ k
either true x y k hx hy = hx
either false x y k hx hy = hy

drawn-lt : (x bound : ℕ) → 0 < bound → drawn x bound < bound
drawn-lt x bound h = mod-lt (x / 65536) h

-- Lines.

register-short : (v n : ℕ) → v < 1000 → n < 1000 → length (register_line v n) ≤ 28
register-short v n hv hn = both (codes "    %") ((decimal v) ++ ((codes ":gr32 = MOV32ri ") ++ ((decimal n) ++ (codes "\n")))) (itself (codes "    %")) (both (decimal v) ((codes ":gr32 = MOV32ri ") ++ ((decimal n) ++ (codes "\n"))) (digits v hv) (both (codes ":gr32 = MOV32ri ") ((decimal n) ++ (codes "\n")) (itself (codes ":gr32 = MOV32ri ")) (both (decimal n) (codes "\n") (digits n hn) (itself (codes "\n")))))

operation-short : (name : List ℕ) (d a c : ℕ) → length name ≤ 8 → d < 1000 → a < 1000 → c < 1000 → length (operation_line name d a c) ≤ 53
operation-short name d a c hname hd ha hc = both (codes "    %") ((decimal d) ++ ((codes " = ") ++ (name ++ ((codes " %") ++ ((decimal a) ++ ((codes ", %") ++ ((decimal c) ++ (codes ", implicit-def $eflags\n")))))))) (itself (codes "    %")) (both (decimal d) ((codes " = ") ++ (name ++ ((codes " %") ++ ((decimal a) ++ ((codes ", %") ++ ((decimal c) ++ (codes ", implicit-def $eflags\n"))))))) (digits d hd) (both (codes " = ") (name ++ ((codes " %") ++ ((decimal a) ++ ((codes ", %") ++ ((decimal c) ++ (codes ", implicit-def $eflags\n")))))) (itself (codes " = ")) (both name ((codes " %") ++ ((decimal a) ++ ((codes ", %") ++ ((decimal c) ++ (codes ", implicit-def $eflags\n"))))) hname (both (codes " %") ((decimal a) ++ ((codes ", %") ++ ((decimal c) ++ (codes ", implicit-def $eflags\n")))) (itself (codes " %")) (both (decimal a) ((codes ", %") ++ ((decimal c) ++ (codes ", implicit-def $eflags\n"))) (digits a ha) (both (codes ", %") ((decimal c) ++ (codes ", implicit-def $eflags\n")) (itself (codes ", %")) (both (decimal c) (codes ", implicit-def $eflags\n") (digits c hc) (itself (codes ", implicit-def $eflags\n")))))))))

move-short : (name : List ℕ) (d a : ℕ) → length name ≤ 8 → d < 1000 → a < 1000 → length (move_line name d a) ≤ 23
move-short name d a hname hd ha = both (codes "    %") ((decimal d) ++ ((codes " = ") ++ (name ++ ((decimal a) ++ (codes "\n"))))) (itself (codes "    %")) (both (decimal d) ((codes " = ") ++ (name ++ ((decimal a) ++ (codes "\n")))) (digits d hd) (both (codes " = ") (name ++ ((decimal a) ++ (codes "\n"))) (itself (codes " = ")) (both name ((decimal a) ++ (codes "\n")) hname (both (decimal a) (codes "\n") (digits a ha) (itself (codes "\n"))))))

store-short : (a c : ℕ) → a < 1000 → c < 1000 → length (store_line a c) ≤ 28
store-short a c ha hc = both (codes "    STORE32mr %") ((decimal a) ++ ((codes ", 0, %") ++ ((decimal c) ++ (codes "\n")))) (itself (codes "    STORE32mr %")) (both (decimal a) ((codes ", 0, %") ++ ((decimal c) ++ (codes "\n"))) (digits a ha) (both (codes ", 0, %") ((decimal c) ++ (codes "\n")) (itself (codes ", 0, %")) (both (decimal c) (codes "\n") (digits c hc) (itself (codes "\n")))))

jump-lines-short : (a c to : ℕ) → a < 1000 → c < 1000 → to < 1000 → length (jump_lines (record { a = a; c = c; to = to })) ≤ 82
jump-lines-short a c to ha hc hto = both (codes "    CMP32rr %") ((decimal a) ++ ((codes ", %") ++ ((decimal c) ++ ((codes ", implicit-def $eflags\n    JCC %bb.") ++ ((decimal to) ++ (codes ", 5, implicit $eflags\n")))))) (itself (codes "    CMP32rr %")) (both (decimal a) ((codes ", %") ++ ((decimal c) ++ ((codes ", implicit-def $eflags\n    JCC %bb.") ++ ((decimal to) ++ (codes ", 5, implicit $eflags\n"))))) (digits a ha) (both (codes ", %") ((decimal c) ++ ((codes ", implicit-def $eflags\n    JCC %bb.") ++ ((decimal to) ++ (codes ", 5, implicit $eflags\n")))) (itself (codes ", %")) (both (decimal c) ((codes ", implicit-def $eflags\n    JCC %bb.") ++ ((decimal to) ++ (codes ", 5, implicit $eflags\n"))) (digits c hc) (both (codes ", implicit-def $eflags\n    JCC %bb.") ((decimal to) ++ (codes ", 5, implicit $eflags\n")) (itself (codes ", implicit-def $eflags\n    JCC %bb.")) (both (decimal to) (codes ", 5, implicit $eflags\n") (digits to hto) (itself (codes ", 5, implicit $eflags\n")))))))

within : (xs : List ℕ) (m : ℕ) → length xs ≤ m → m ≤ 53 → length xs ≤ 53
within xs m h k = omega (arith, h, k)

named : (xs : List ℕ) (m : ℕ) → length xs ≡ m → m ≤ 8 → length xs ≤ 8
named xs m e h = omega (arith, e, h)

instr-short : (a c d kind : ℕ) → a < 1000 → c < 1000 → d < 1000 → length (instr_line (record { a = a; c = c; d = d; kind = kind })) ≤ 53
instr-short a c d kind ha hc hd =
    let add = operation_line (codes "ADD32rr") d a c in
    let sub = operation_line (codes "SUB32rr") d a c in
    let xor = operation_line (codes "XOR32rr") d a c in
    let number = move_line (codes "MOV32ri ") d a in
    let copy = move_line (codes "COPY %") d a in
    let store = store_line a c in
    let from4 = if kind == 4 then copy else store in
    let from3 = if kind == 3 then number else from4 in
    let from2 = if kind == 2 then xor else from3 in
    let from1 = if kind == 1 then sub else from2 in
    either (kind == 0) add from1 53 (operation-short (codes "ADD32rr") d a c (named (codes "ADD32rr") 7 refl (omega arith)) hd ha hc)
    (either (kind == 1) sub from2 53 (operation-short (codes "SUB32rr") d a c (named (codes "SUB32rr") 7 refl (omega arith)) hd ha hc)
    (either (kind == 2) xor from3 53 (operation-short (codes "XOR32rr") d a c (named (codes "XOR32rr") 7 refl (omega arith)) hd ha hc)
    (either (kind == 3) number from4 53 (within number 23 (move-short (codes "MOV32ri ") d a (named (codes "MOV32ri ") 8 refl (omega arith)) hd ha) (omega arith))
    (either (kind == 4) copy store 53 (within copy 23 (move-short (codes "COPY %") d a (named (codes "COPY %") 6 refl (omega arith)) hd ha) (omega arith))
    (within store 28 (store-short a c ha hc) (omega arith))))))

-- one of the registers
small : (x bound : ℕ) → 0 < bound → bound < 1000 → drawn x bound < 1000
small x bound h k = omega (arith, drawn-lt x bound h, k)

-- Lines one after the other.

registers-short : (n x : ℕ) → n < 1000 → length (register_lines n x) ≤ n * 28
unfolding register_lines
registers-short zero x h = omega arith
registers-short (suc n) x h =
    let first = registers-short n x (omega (arith, h)) in
    let last = register-short n (drawn (next (behind_registers n x)) 1000) (omega (arith, h)) (drawn-lt (next (behind_registers n x)) 1000 (omega arith)) in
    omega (arith, both (register_lines n x) (register_line n (drawn (next (behind_registers n x)) 1000)) first last)

instrs-short : (n x : ℕ) → length (instr_lines n x) ≤ n * 53
unfolding instr_lines
instrs-short zero x = omega arith
instrs-short (suc n) x =
    let y = behind_instrs n x in
    let last = instr-short (drawn (next y) 24) (drawn (next (next y)) 24) (drawn (next (next (next y))) 24) (drawn (next (next (next (next y)))) 6) (small (next y) 24 (omega arith) (omega arith)) (small (next (next y)) 24 (omega arith) (omega arith)) (small (next (next (next y))) 24 (omega arith) (omega arith)) in
    omega (arith, both (instr_lines n x) (instr_line (numbers y)) (instrs-short n x) last)

jump-short : (x : ℕ) → length (jump_lines (jump x)) ≤ 82
jump-short x =
    jump-lines-short (drawn (next x) 24) (drawn (next (next x)) 24) (drawn (next (next (next x))) 401 + 1) (small (next x) 24 (omega arith) (omega arith)) (small (next (next x)) 24 (omega arith) (omega arith)) (omega (arith, drawn-lt (next (next (next x))) 401 (omega arith)))

block-short : (b x : ℕ) → b < 1000 → length (block_lines b x) ≤ 728
block-short b x h =
    let is = instr_lines 12 x in
    let js = jump_lines (jump (behind_instrs 12 x)) in
    both (codes "  bb.") (decimal b ++ (codes ":\n" ++ (is ++ js))) (itself (codes "  bb.")) (both (decimal b) (codes ":\n" ++ (is ++ js)) (digits b h) (both (codes ":\n") (is ++ js) (itself (codes ":\n")) (both is js (instrs-short 12 x) (jump-short (behind_instrs 12 x)))))

blocks-short : (n x : ℕ) → n < 999 → length (blocks_lines n x) ≤ n * 728
unfolding blocks_lines
blocks-short zero x h = omega arith
blocks-short (suc n) x h =
    omega (arith, both (blocks_lines n x) (block_lines (suc n) (behind_blocks n x)) (blocks-short n x (omega (arith, h))) (block-short (suc n) (behind_blocks n x) (omega (arith, h))))

pub text_is_short : (seed : ℕ) → length (generated_text seed) ≤ 4194304
text_is_short seed =
    let rs = register_lines 24 seed in
    let bs = blocks_lines 400 (behind_registers 24 seed) in
    let all : length (generated_text seed) ≤ 28 + (24 * 28 + (400 * 728 + 55)) =
    both head_lines (rs ++ (bs ++ last_lines)) (itself head_lines) (both rs (bs ++ last_lines) (registers-short 24 seed (omega arith)) (both bs last_lines (blocks-short 400 (behind_registers 24 seed) (omega arith)) (itself last_lines))) in
    omega (arith, all)

-- the same of a text that is that one
pub is_short : (seed : ℕ) (text : List ℕ) → text ≡ generated_text seed → length text ≤ 4194304
is_short seed text e = rw e (text_is_short seed)
