-- Edits along a function split the range.
use Rattle.std.proofs.Common.{◌≡◌, ◌∷◌, ◌++◌, ◌∙◌, ◌+◌, ◌-◌, ◌≤◌, ◌<◌, ◌&&◌, ◌||◌, not, ℕ, Bool, true, false, cond, List, [], Option, Some, None, refl, sym, ap, subst, length, map, arith, eq-eqb, append_assoc, append-nil, length-append}
use Rattle.std.specs.Prelude.{nat_eq, option_map, slice_get}
use Rattle.std.specs.List.{insert, list_any}
use Rattle.std.specs.Option.{option_map_or}
use Rattle.std.proofs.lemmas.Option.{same_Some}
use Rattle.target_base.specs.declared.types.Effect.{Effect}
use Rattle.target_base.specs.declared.types.Effect.TheVariants as effects
use Rattle.target_base.specs.declared.types.OpcodeDesc.{OpcodeDesc}
use Rattle.target_base.specs.declared.types.OpId.{OpId}
use Rattle.target_base.specs.declared.types.Target.{Target}
use Rattle.target_base.specs.Numbers.{op_number}
use Rattle.target_base.specs.Rules.{is_copy, is_phi, starts_with_the_five}
use Rattle.target_base.proofs.Sound.{opcodes_sound}
use Rattle.target_base.proofs.Tests.{first_of_both, second_of_both}
use Rattle.meaning.specs.Live.{Among, here, there}
use Rattle.mir_func.specs.declared.func.Block.{Block}
use Rattle.mir_func.specs.declared.func.Instr.{Instr}
use Rattle.mir_func.specs.declared.func.Loc.TheVariants.{Virtual}
use Rattle.mir_func.specs.declared.func.Op.{Op}
use Rattle.mir_func.specs.declared.func.Op.TheVariants as ops
use Rattle.mir_func.specs.declared.func.Operand.{Operand}
use Rattle.mir_func.specs.declared.func.Operand.TheVariants as operands
use Rattle.mir_func.specs.declared.func.RegOp.{RegOp}
use Rattle.mir_func.specs.Value.{Function, IsFunction}
use Rattle.mir_func.specs.At.{changed_at, instr_at, instrs_at, with_operation}
use Rattle.mir_func.specs.Binding.{does, effect_of, is_terminator, passes, registers}
use Rattle.mir_func.specs.Edits.{block_place, gap_place, inserted, made, put, update}
use Rattle.mir_func.proofs.ByPlace.{replaced_is_changed}
use Rattle.mir_meaning.specs.Paths.{has}
use Rattle.mir_meaning.specs.Points.{Entry, Point, Start, is_range, touches}
use Rattle.mir_meaning.specs.Registers.{has_number}
use Rattle.mir_meaning.specs.Renaming.{renamed_instr, renamed_operand}
use Rattle.mir_meaning.specs.Rules.{block_numbers}
use Rattle.live_lanes.specs.Ordered.{ids_of}
use Rattle.live_lanes.specs.declared.ask.labels.Mark.{Mark}
use Rattle.edit_laws.specs.Edits.{Edit, Put, Replace, Stands, StaysPlain, replaced, with_op}
use Rattle.live_edits.specs.Folded.{all_instrs, names_range}
use Rattle.live_edits.proofs.JoiningEdits.{single-of}
use Rattle.live_edits.proofs.JoiningLaw.{all-apart}
use Rattle.live_edits.proofs.JoiningMembers.{instr-member}
use Rattle.live_edits.proofs.JoiningPlaces.{same-instr}
use Rattle.live_edits.proofs.RunPlaces.{replaced-function}
use Rattle.split_kit.specs.PartEdits.{copy_edits, gap_of, instr_edits, operand_edits, part_edits}
use Rattle.split_kit.specs.Split.{as_part, changed, instrs_split, label_behind, last_point, part, whole}
use Rattle.split_kit.proofs.EditRuns.{IsRun, ended, goes, inserted-function, run-then}
use Rattle.split_kit.proofs.Seats.{block-seat, get-seat, insert-seat, instr-seat, update-seat}

-- a copy is neither a phi nor a terminator

copy-is : (e : Effect) → is_copy e ≡ true → e ≡ effects.Copy
copy-is effects.Copy h = refl
copy-is e h = absurd (cc)

copy-first : (os : List OpcodeDesc) → starts_with_the_five os ≡ true → option_map (λ (d : OpcodeDesc). d.effect) (slice_get os 0) ≡ Some effects.Copy
copy-first [] e = absurd (cc)
copy-first (a ∷ []) e = absurd (cc)
copy-first (a ∷ b ∷ []) e = absurd (cc)
copy-first (a ∷ b ∷ c ∷ []) e = absurd (cc)
copy-first (a ∷ b ∷ c ∷ x ∷ []) e = absurd (cc)
copy-first (a ∷ b ∷ c ∷ x ∷ y ∷ os) e =
    let q = first_of_both _ _ (first_of_both _ _ (first_of_both _ _ (first_of_both _ _ e))) in
    ap Some (copy-is a.effect (second_of_both _ _ (first_of_both _ _ q)))

copy-effect : (t : Target) (id : ℕ) (os : List Operand) → effect_of t (made id (op_number 0) os) ≡ Some effects.Copy
copy-effect t id os =
    let all = opcodes_sound t.name t.version t.units t.regs t.reserved t.indexes t.classes t.masks t.opcodes t.sound in
    copy-first t.opcodes (second_of_both _ _ (first_of_both _ _ (first_of_both _ _ all)))

-- runs keep ids distinct

pub run-function : (t : Target) (f g : Function) (es : List Edit) → IsRun t f es g → IsFunction f.blocks f.next_id → IsFunction g.blocks g.next_id
run-function t f g [] ended is = is
run-function t f g (Put gap op os ∷ es) (goes p k s r) is = run-function t (inserted f gap op os) g es r (inserted-function f gap op os is)
run-function t f g (Replace id op os ∷ es) (goes p k s r) is = run-function t (replaced f id op os) g es r (replaced-function f id op os is)
run-function t f g (e ∷ es) (goes p k s r) is = absurd s

-- operands that don't name the range stay

neither : (u v : Bool) → u || v ≡ false → (u ≡ false) × (v ≡ false)
neither true v h = absurd (let z : true ≡ false = h in cc)
neither false v h = (refl, h)

part-other : (f : Function) (v label : ℕ) (o : RegOp) → is_range v o.loc ≡ false → as_part f v label o ≡ o
part-other f v label o e = ap (λ u. cond u (record o { loc = Virtual (part f label) }) o) e

operands-other : (f : Function) (v label : ℕ) (os : List Operand) → list_any (λ o. is_range v o.loc) (registers os) ≡ false → map (renamed_operand (as_part f v label)) os ≡ os
operands-other f v label [] e = refl
operands-other f v label (operands.Reg o ∷ os) e =
    let both = neither (is_range v o.loc) (list_any (λ o. is_range v o.loc) (registers os)) e in
    λ k. operands.Reg (part-other f v label o both.0 k) ∷ operands-other f v label os both.1 k
operands-other f v label (operands.Imm z ∷ os) e = ap (λ xs. operands.Imm z ∷ xs) (operands-other f v label os e)
operands-other f v label (operands.Block z ∷ os) e = ap (λ xs. operands.Block z ∷ xs) (operands-other f v label os e)
operands-other f v label (operands.Stack z ∷ os) e = ap (λ xs. operands.Stack z ∷ xs) (operands-other f v label os e)
operands-other f v label (operands.FixedStack z ∷ os) e = ap (λ xs. operands.FixedStack z ∷ xs) (operands-other f v label os e)
operands-other f v label (operands.Symbol z ∷ os) e = ap (λ xs. operands.Symbol z ∷ xs) (operands-other f v label os e)
operands-other f v label (operands.Index z ∷ os) e = ap (λ xs. operands.Index z ∷ xs) (operands-other f v label os e)
operands-other f v label (operands.Mask z ∷ os) e = ap (λ xs. operands.Mask z ∷ xs) (operands-other f v label os e)

same-does : (t : Target) (test : Effect → Bool) (x y : Instr) → x.op ≡ y.op → does test t x ≡ does test t y
same-does t test x y e = ap (λ (o : Op). does test t (record x { op = o })) e

-- the instruction has a known opcode, which isn't a phi, and names the range only where the range touches it
pub record Fit (t : Target) (v : ℕ) (i : Instr) : Type 0 where
  pub opcode : (op : OpId) × (i.op ≡ ops.Known op)
  pub plain : does is_phi t i ≡ false
  pub named : names_range v i ≡ true → touches v i ≡ true

has-seat : (done : List Instr) (i : Instr) (is : List Instr) → has i.id (ids_of (done ++ i ∷ is)) ≡ true
has-seat [] i is = ap (λ u. cond u true (has i.id (ids_of is))) (eq-eqb i.id i.id refl)
has-seat (j ∷ done) i is = go (nat_eq j.id i.id) (has-seat done i is)
  where
    go : (u : Bool) → has i.id (ids_of (done ++ i ∷ is)) ≡ true → cond u true (has i.id (ids_of (done ++ i ∷ is))) ≡ true
    go true h = refl
    go false h = h

among-seat : {X : Type 0} (xs : List X) (y : X) (ys : List X) → Among y (xs ++ y ∷ ys)
among-seat [] y ys = here
among-seat (x ∷ xs) y ys = there (among-seat xs y ys)

module _ (t : Target) (live : Point → Bool) (f : Function) (v : ℕ) (ms : List Mark) (g : Function) where
  -- the function while a block is edited
  abbrev at : List Block → Block → List Instr → List Block → ℕ → Function
  at pre b js post n = record g { blocks = pre ++ (record b { instrs = js }) ∷ post; next_id = n }

  at-same : (pre : List Block) (b : Block) (post : List Block) (js ks : List Instr) (n m : ℕ) → js ≡ ks → n ≡ m → at pre b js post n ≡ at pre b ks post m
  at-same pre b post js ks n m p q = λ k. record g { blocks = pre ++ (record b { instrs = p k }) ∷ post; next_id = q k }

  module _ (pre : List Block) (b : Block) (post : List Block) (new : has_number (block_numbers pre) b.number ≡ false) where
    -- a copy

    put-there : (before : Option ℕ) (done is : List Instr) (n : ℕ) (x : Instr) → gap_place before (done ++ is) ≡ length done
        → update (block_place b.number (pre ++ (record b { instrs = done ++ is }) ∷ post)) (put before x) (pre ++ (record b { instrs = done ++ is }) ∷ post) ≡ pre ++ (record b { instrs = done ++ x ∷ is }) ∷ post
    put-there before done is n x gap =
        let own : Block = record b { instrs = done ++ is } in
        ap (λ p. update p (put before x) (pre ++ own ∷ post)) (block-seat pre own post new)
        ∙ (update-seat (put before x) pre own post
        ∙ ap (λ js. pre ++ (record b { instrs = js }) ∷ post) (ap (λ p. insert (done ++ is) p x) gap ∙ insert-seat done is x))

    put-run : (before : Option ℕ) (done is : List Instr) (n : ℕ) (os : List Operand) → gap_place before (done ++ is) ≡ length done → ((id : ℕ) → before ≡ Some id → has id (ids_of (done ++ is)) ≡ true)
        → IsRun t (at pre b (done ++ is) post n) (Put (gap_of b before) (op_number 0) os ∷ []) (at pre b (done ++ made n (op_number 0) os ∷ is) post (n + 1))
    put-run before done is n os gap found =
        let own : Block = record b { instrs = done ++ is } in
        let s : Function = at pre b (done ++ is) post n in
        let h : Function = at pre b (done ++ made n (op_number 0) os ∷ is) post (n + 1) in
        let same : inserted s (gap_of b before) (op_number 0) os ≡ h = (λ k. record g { blocks = put-there before done is n (made n (op_number 0) os) gap k; next_id = n + 1 }) in
        goes
        (record {
          block = subst (λ p. p < length (pre ++ own ∷ post)) (sym (block-seat pre own post new)) (omega (arith, length-append pre (own ∷ post)));
          before = λ id e. subst (λ p. has id (ids_of (instrs_at (pre ++ own ∷ post) p)) ≡ true) (sym (block-seat pre own post new))
              (subst (λ q. has id (ids_of (option_map_or (λ (c : Block). c.instrs) q [])) ≡ true) (sym (get-seat pre own post)) (found id e));
        })
        (ap (passes is_phi) (copy-effect t n os), ap (passes is_terminator) (copy-effect t n os)) tt
        (subst (λ x. IsRun t x [] h) (sym same) ended)

    abbrev copies : ℕ → Bool → List Operand → List Instr
    copies n c os = cond c (made n (op_number 0) os ∷ []) []

    copy-run : (before : Option ℕ) (done is : List Instr) (n : ℕ) (c : Bool) (os : List Operand) → gap_place before (done ++ is) ≡ length done → ((id : ℕ) → before ≡ Some id → has id (ids_of (done ++ is)) ≡ true)
        → IsRun t (at pre b (done ++ is) post n) (cond c (Put (gap_of b before) (op_number 0) os ∷ []) []) (at pre b (done ++ (copies n c os ++ is)) post (n + length (copies n c os)))
    copy-run before done is n true os gap found = put-run before done is n os gap found
    copy-run before done is n false os gap found = subst (λ m. IsRun t (at pre b (done ++ is) post n) [] (at pre b (done ++ is) post m)) (omega arith) ended

    -- an instruction

    module _ (done : List Instr) (i : Instr) (is : List Instr) (n : ℕ) (is_function : IsFunction (pre ++ (record b { instrs = done ++ i ∷ is }) ∷ post) n) (fit : Fit t v i) where
      abbrev now : Function
      now = at pre b (done ++ i ∷ is) post n

      only-one : (c : Block) (j : Instr) → Stands now i.id c j → i ≡ j
      only-one c j s =
          same-instr (all_instrs now) (all-apart now (single-of now is_function)) i j
          (instr-member (record b { instrs = done ++ i ∷ is }) i now.blocks (among-seat pre (record b { instrs = done ++ i ∷ is }) post) (among-seat done i is))
          (instr-member c j now.blocks s.block s.instr) (sym s.named)

      stays-plain : (op : OpId) (os : List Operand) → i.op ≡ ops.Known op → (j : Instr) → i ≡ j → StaysPlain t j (with_op op os j)
      stays-plain op os known j e =
          subst (λ (k : Instr). StaysPlain t k (with_op op os k)) e
          (fit.plain, sym (same-does t is_phi i (with_op op os i) known) ∙ fit.plain, same-does t is_terminator i (with_op op os i) known)

      replaced-there : (op : OpId) (os : List Operand) → replaced now i.id op os ≡ at pre b (done ++ with_op op os i ∷ is) post n
      replaced-there op os =
          let own : Block = record b { instrs = done ++ i ∷ is } in
          let found : instr_at now.blocks (length pre) (length done) ≡ Some i =
          ap (λ q. slice_get (option_map_or (λ (c : Block). c.instrs) q []) (length done)) (get-seat pre own post) ∙ get-seat done i is in
          sym (replaced_is_changed now (length pre) (length done) i (ops.Known op) os is_function found)
          ∙ ap (λ bs. record g { blocks = bs; next_id = n })
          (update-seat (changed_at (length done) (with_operation (ops.Known op) os)) pre own post
          ∙ ap (λ js. pre ++ (record b { instrs = js }) ∷ post) (update-seat (with_operation (ops.Known op) os) done i is))

      replace-run : (op : OpId) (os : List Operand) → i.op ≡ ops.Known op → IsRun t now (Replace i.id op os ∷ []) (at pre b (done ++ (record i { operands = os }) ∷ is) post n)
      replace-run op os known =
          let h : Function = at pre b (done ++ with_op op os i ∷ is) post n in
          subst (λ (o : Op). IsRun t now (Replace i.id op os ∷ []) (at pre b (done ++ (record i { op = o; operands = os }) ∷ is) post n)) (sym known)
          (goes tt (λ c j s. stays-plain op os known j (only-one c j s)) tt (subst (λ x. IsRun t x [] h) (sym (replaced-there op os)) ended))

      part-run : (label : ℕ) → IsRun t now (cond (touches v i) (part_edits f v label i) []) (at pre b (done ++ renamed_instr (as_part f v label) i ∷ is) post n)
      part-run label = go (touches v i) refl
        where
          os : List Operand
          os = map (renamed_operand (as_part f v label)) i.operands

          stays : (u : Bool) → names_range v i ≡ u → (names_range v i ≡ true → touches v i ≡ true) → touches v i ≡ false → os ≡ i.operands
          stays true e h d = absurd (let z : true ≡ false = sym (h e) ∙ d in cc)
          stays false e h d = operands-other f v label i.operands e

          go : (u : Bool) → touches v i ≡ u → IsRun t now (cond u (part_edits f v label i) []) (at pre b (done ++ (record i { operands = os }) ∷ is) post n)
          go true e = subst (λ (o : Op). IsRun t now (operand_edits i.id o os) (at pre b (done ++ (record i { operands = os }) ∷ is) post n)) (sym fit.opcode.1) (replace-run fit.opcode.0 os fit.opcode.1)
          go false e = subst (λ xs. IsRun t now [] (at pre b (done ++ (record i { operands = xs }) ∷ is) post n)) (sym (stays (names_range v i) refl fit.named e)) ended

    -- instructions

    abbrev split : ℕ → ℕ → List Instr → List Instr
    split n now is = instrs_split live f v ms n b now is

    longer : (n now : ℕ) (is : List Instr) → length is ≤ length (split n now is)
    longer n now [] = omega arith
    longer n now (i ∷ is) =
        let to : ℕ = label_behind ms b.number (Some i.id) now in
        let cs : List Instr = changed f n (live (Entry i.id)) now to in
        omega (arith, length-append cs (renamed_instr (as_part f v to) i ∷ split (n + length cs) to is), longer (n + length cs) to is)

    pub instrs-run : (done : List Instr) (n now : ℕ) (is : List Instr) → IsFunction (pre ++ (record b { instrs = done ++ is }) ∷ post) n → ((i : Instr) → Among i is → Fit t v i)
        → IsRun t (at pre b (done ++ is) post n) (instr_edits live f v ms b now is) (at pre b (done ++ split n now is) post (n + (length (split n now is) - length is)))
    instrs-run done n now [] is_function fit =
        let to : ℕ = label_behind ms b.number None now in
        let c : Bool = live (last_point (Start b.number) b.instrs) && not (nat_eq now to) in
        let os : List Operand = whole true (part f to) ∷ whole false (part f now) ∷ [] in
        subst (λ x. IsRun t (at pre b (done ++ []) post n) (instr_edits live f v ms b now []) x) (at-same pre b post (done ++ (copies n c os ++ [])) (done ++ copies n c os) (n + length (copies n c os)) (n + (length (copies n c os) - 0)) (ap (λ xs. done ++ xs) (append-nil (copies n c os))) (omega arith))
        (copy-run None done [] n c os (ap length (append-nil done)) (λ id e. absurd (cc)))
    instrs-run done n now (i ∷ is) is_function fit =
        let to : ℕ = label_behind ms b.number (Some i.id) now in
        let c : Bool = live (Entry i.id) && not (nat_eq now to) in
        let os : List Operand = whole true (part f to) ∷ whole false (part f now) ∷ [] in
        let cs : List Instr = copies n c os in
        let m : ℕ = n + length cs in
        let j : Instr = renamed_instr (as_part f v to) i in
        let rest : List Instr = split m to is in
        let first : IsRun t (at pre b (done ++ i ∷ is) post n) (copy_edits f (gap_of b (Some i.id)) (live (Entry i.id)) now to) (at pre b ((done ++ cs) ++ i ∷ is) post m) =
        subst (λ x. IsRun t (at pre b (done ++ i ∷ is) post n) (copy_edits f (gap_of b (Some i.id)) (live (Entry i.id)) now to) x)
        (at-same pre b post (done ++ (cs ++ i ∷ is)) ((done ++ cs) ++ i ∷ is) m m (sym (append_assoc done cs (i ∷ is))) refl)
        (copy-run (Some i.id) done (i ∷ is) n c os (instr-seat pre (record b { instrs = done ++ i ∷ is }) post n done i is refl is_function) (λ id e. subst (λ x. has x (ids_of (done ++ i ∷ is)) ≡ true) (same_Some i.id id e) (has-seat done i is))) in
        let second : IsRun t (at pre b ((done ++ cs) ++ i ∷ is) post m) (cond (touches v i) (part_edits f v to i) []) (at pre b ((done ++ cs) ++ j ∷ is) post m) =
        part-run (done ++ cs) i is m (run-function t (at pre b (done ++ i ∷ is) post n) (at pre b ((done ++ cs) ++ i ∷ is) post m) (copy_edits f (gap_of b (Some i.id)) (live (Entry i.id)) now to) first is_function) (fit i here) to in
        let both = run-then t (at pre b (done ++ i ∷ is) post n) (at pre b ((done ++ cs) ++ i ∷ is) post m) (at pre b ((done ++ cs) ++ j ∷ is) post m) (copy_edits f (gap_of b (Some i.id)) (live (Entry i.id)) now to) (cond (touches v i) (part_edits f v to i) []) first second in
        let still : IsFunction (pre ++ (record b { instrs = (done ++ cs) ++ j ∷ is }) ∷ post) m = run-function t (at pre b (done ++ i ∷ is) post n) (at pre b ((done ++ cs) ++ j ∷ is) post m) (copy_edits f (gap_of b (Some i.id)) (live (Entry i.id)) now to ++ cond (touches v i) (part_edits f v to i) []) both is_function in
        let in-front : (xs : List Instr) → ((done ++ cs) ++ j ∷ []) ++ xs ≡ (done ++ cs) ++ j ∷ xs = (λ xs. append_assoc (done ++ cs) (j ∷ []) xs) in
        let third : IsRun t (at pre b (((done ++ cs) ++ j ∷ []) ++ is) post m) (instr_edits live f v ms b to is) (at pre b (((done ++ cs) ++ j ∷ []) ++ rest) post (m + (length rest - length is))) =
        instrs-run ((done ++ cs) ++ j ∷ []) m to is (subst (λ js. IsFunction (pre ++ (record b { instrs = js }) ∷ post) m) (sym (in-front is)) still) (λ k a. fit k (there a)) in
        let count : m + (length rest - length is) ≡ n + (length (cs ++ j ∷ rest) - length (i ∷ is)) = omega (arith, length-append cs (j ∷ rest), longer m to is) in
        let ends : at pre b (((done ++ cs) ++ j ∷ []) ++ rest) post (m + (length rest - length is)) ≡ at pre b (done ++ (cs ++ j ∷ rest)) post (n + (length (cs ++ j ∷ rest) - length (i ∷ is))) =
        at-same pre b post (((done ++ cs) ++ j ∷ []) ++ rest) (done ++ (cs ++ j ∷ rest)) (m + (length rest - length is)) (n + (length (cs ++ j ∷ rest) - length (i ∷ is))) (in-front rest ∙ append_assoc done cs (j ∷ rest)) count in
        let whole-third : IsRun t (at pre b ((done ++ cs) ++ j ∷ is) post m) (instr_edits live f v ms b to is) (at pre b (done ++ (cs ++ j ∷ rest)) post (n + (length (cs ++ j ∷ rest) - length (i ∷ is)))) =
        subst (λ x. IsRun t x (instr_edits live f v ms b to is) (at pre b (done ++ (cs ++ j ∷ rest)) post (n + (length (cs ++ j ∷ rest) - length (i ∷ is))))) (at-same pre b post (((done ++ cs) ++ j ∷ []) ++ is) ((done ++ cs) ++ j ∷ is) m m (in-front is) refl)
        (subst (λ x. IsRun t (at pre b (((done ++ cs) ++ j ∷ []) ++ is) post m) (instr_edits live f v ms b to is) x) ends third) in
        run-then t (at pre b (done ++ i ∷ is) post n) (at pre b ((done ++ cs) ++ i ∷ is) post m) (at pre b (done ++ (cs ++ j ∷ rest)) post (n + (length (cs ++ j ∷ rest) - length (i ∷ is)))) (copy_edits f (gap_of b (Some i.id)) (live (Entry i.id)) now to) (cond (touches v i) (part_edits f v to i) [] ++ instr_edits live f v ms b to is) first
        (run-then t (at pre b ((done ++ cs) ++ i ∷ is) post m) (at pre b ((done ++ cs) ++ j ∷ is) post m) (at pre b (done ++ (cs ++ j ∷ rest)) post (n + (length (cs ++ j ∷ rest) - length (i ∷ is)))) (cond (touches v i) (part_edits f v to i) []) (instr_edits live f v ms b to is) second whole-third)
