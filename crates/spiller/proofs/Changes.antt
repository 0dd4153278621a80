-- What is planned for a place, in its parts, is what its change plans.
use Rattle.std.proofs.Common.{◌≡◌, ◌∙◌, ℕ, ◌+◌, Bool, true, false, cond, not, ◌&&◌, ◌||◌, List, [], ◌∷◌, ◌++◌, Option, Some, None, length, refl, sym, ap, arith, append_assoc}
use Rattle.std.specs.Prelude.{nat_eq, option_and_then}
use Rattle.std.specs.List.{list_any}
use Rattle.std.proofs.lemmas.Bool.{eq-eqb}
use Rattle.std.proofs.lemmas.List.{append-nil, length-append, map-append}
use Rattle.std.proofs.lemmas.List.Folds.{list_any-append}
use Rattle.target_base.specs.declared.types.ClassId.{ClassId}
use Rattle.target_base.specs.declared.types.IndexId.{IndexId}
use Rattle.target_base.specs.declared.types.OpId.{OpId}
use Rattle.target_base.specs.Registers.{reload_place, spill_place}
use Rattle.mir_func.specs.Edits.{made}
use Rattle.mir_func.specs.declared.func.Gap.{Gap}
use Rattle.mir_func.specs.declared.func.Loc.TheVariants.{Virtual}
use Rattle.mir_func.specs.declared.func.RegOp.{RegOp}
use Rattle.mir_func.specs.declared.func.Operand.{Operand}
use Rattle.mir_func.specs.declared.func.Operand.TheVariants as operands
use Rattle.mir_func.specs.declared.func.Instr.{Instr}
use Rattle.live_edits.specs.declared.edit.Edit.{Edit}
use Rattle.live_edits.specs.declared.edit.Edit.TheVariants as edits
use Rattle.lowering_laws.proofs.NamedTies.{or-true}
use Rattle.spiller.specs.Setting.{Spilling, in_own_slot, lanes_named, opcode, plain_definition, plain_use, reload, store}
use Rattle.spiller.specs.Spilled.{Change, becomes, in_place_of, is_slot, new_ids, through_tiny}
use Rattle.spiller.specs.Views.{Planned}
use Rattle.spiller.specs.Planned.{change_edits, known_op, names_own, names_own_slot, names_slot_anew, own_edits, put_all, uses_own_slot, with_change}
use Rattle.spiller.specs.Additions.{Addition, both, edited, put_into, ranges_made, slot_named, with_addition}
use Rattle.spiller.specs.Moving.{moved_through}
use Rattle.spiller.proofs.Added.{addition-is, then-added}

-- a change by its parts
pub changed : (s : Spilling) (before behind : Gap) (is : List Instr) (x : Change) (p : Planned) (a : Addition) → change_edits s before behind is x ≡ a.edits → x.tinies ≡ a.tinies → uses_own_slot s is x ≡ a.uses_slot → new_ids x ≡ a.new → with_change s before behind is x p ≡ with_addition a p
changed s before behind is x p a e t u n =
    ap (λ b. with_addition b p) (addition-is (record { edits = change_edits s before behind is x; tinies = x.tinies; uses_slot = uses_own_slot s is x; new = new_ids x }) a e t u n)

-- an instruction goes
pub erased : (s : Spilling) (before behind : Gap) (i : Instr) (p : Planned) → with_change s before behind (i ∷ []) (becomes []) p ≡ with_addition (edited (edits.Erase i.id ∷ [])) p
erased s before behind i p = changed s before behind (i ∷ []) (becomes []) p (edited (edits.Erase i.id ∷ [])) refl refl (go (not (list_any (names_own_slot s) (i ∷ [])))) refl
  where
    go : (b : Bool) → ((b && false) || false) ≡ false
    go true = refl
    go false = refl

-- it becomes another one, which is the first to name the slot
pub replaced : (s : Spilling) (before behind : Gap) (i x : Instr) (p : Planned) → names_own s i ≡ true → names_own_slot s i ≡ false → names_own_slot s x ≡ true → with_change s before behind (i ∷ []) (becomes (x ∷ [])) p ≡ with_addition (both slot_named (edited (edits.Replace i.id (known_op x.op) x.operands ∷ []))) p
replaced s before behind i x p own none slot =
    changed s before behind (i ∷ []) (becomes (x ∷ [])) p (both slot_named (edited (edits.Replace i.id (known_op x.op) x.operands ∷ [])))
    (ap (λ b. cond b (edits.Replace i.id (known_op x.op) x.operands ∷ []) [] ++ []) own) refl
    (λ k. (not (none k || false) && (slot k || false)) || false) refl

-- another one stands before its place, and it goes
pub put-erased : (s : Spilling) (before behind : Gap) (i x : Instr) (p : Planned) → with_change s before behind (i ∷ []) (record (becomes []) { before = x ∷ [] }) p ≡ with_addition (both (put_into s before (x ∷ [])) (edited (edits.Erase i.id ∷ []))) p
put-erased s before behind i x p =
    changed s before behind (i ∷ []) (record (becomes []) { before = x ∷ [] }) p (both (put_into s before (x ∷ [])) (edited (edits.Erase i.id ∷ [])))
    refl refl (ap (λ b. (names_own_slot s x || false) || b) (go (not (list_any (names_own_slot s) (i ∷ []))))) refl
  where
    go : (b : Bool) → ((b && false) || false) ≡ false
    go true = refl
    go false = refl

-- lanes go from slot to slot
pub moved : (s : Spilling) (before behind : Gap) (i : Instr) (c : ℕ) (k : Option ClassId) (from to : List Operand) (p : Planned) → names_own s i ≡ true → uses_own_slot s (i ∷ []) (through_tiny s p.next_id c i k from to) ≡ true → with_change s before behind (i ∷ []) (through_tiny s p.next_id c i k from to) p ≡ with_addition (moved_through s.target p.next_id c i.id behind k from to) p
moved s before behind i c k from to p own uses =
    changed s before behind (i ∷ []) (through_tiny s p.next_id c i k from to) p (moved_through s.target p.next_id c i.id behind k from to)
    (ap (λ b. cond b (edits.Replace i.id (known_op (moves k).op) (moves k).operands ∷ []) [] ++ put_all behind (store s.target k (plain_use (Virtual c) None) to ∷ [])) own) refl uses refl
  where
    moves : Option ClassId → Instr
    moves k = in_place_of i (reload s.target k (plain_definition (Virtual c) None) from)

-- stores to the range's slot and reloads from it name it
pub own-named : (s : Spilling) (o : RegOp) (x : Option IndexId) → list_any (is_slot s.slot) (operands.Reg o ∷ in_own_slot s x) ≡ true
own-named s o x = ap (λ b. b || (is_slot s.slot (lanes_named x) || false)) (eq-eqb s.slot s.slot refl)

lanes-none : (n : ℕ) (x : Option IndexId) → is_slot n (lanes_named x) ≡ false
lanes-none n None = refl
lanes-none n (Some x) = refl

pub moved-to-own : (s : Spilling) (i : Instr) (n c : ℕ) (k : Option ClassId) (from : List Operand) (x : Option IndexId) → uses_own_slot s (i ∷ []) (through_tiny s n c i k from (in_own_slot s x)) ≡ true
moved-to-own s i n c k from x =
    ap (λ b. names_slot_anew s (i ∷ []) (through_tiny s n c i k from (in_own_slot s x)).own || (b || false)) (own-named s (plain_use (Virtual c) None) x)
    ∙ or-true (names_slot_anew s (i ∷ []) (through_tiny s n c i k from (in_own_slot s x)).own)

pub moved-from-own : (s : Spilling) (i : Instr) (n c : ℕ) (k : Option ClassId) (o : RegOp) (m : ℕ) (x y : Option IndexId) → i.operands ≡ operands.Reg o ∷ operands.Stack m ∷ lanes_named y ∷ [] → uses_own_slot s (i ∷ []) (through_tiny s n c i k (in_own_slot s x) (operands.Stack m ∷ lanes_named y ∷ [])) ≡ true
moved-from-own s i n c k o m x y are =
    (λ j. (not (list_any (is_slot s.slot) (are j) || false) && (own-named s (plain_definition (Virtual c) None) x j || false)) || ((nat_eq m s.slot || (is_slot s.slot (lanes_named y) || false)) || false))
    ∙ (ap (λ b. (not ((nat_eq m s.slot || (b || false)) || false) && (true || false)) || ((nat_eq m s.slot || (b || false)) || false)) (lanes-none s.slot y)
    ∙ go (nat_eq m s.slot))
  where
    go : (b : Bool) → ((not ((b || (false || false)) || false) && (true || false)) || ((b || (false || false)) || false)) ≡ true
    go true = refl
    go false = refl

-- any other place

length-both : (xs ys zs : List Instr) → length (xs ++ ys) + length zs ≡ (0 + length xs) + (0 + length ys) + 0 + length zs
length-both xs ys zs = let l = length-append xs ys in omega (arith, l)

or-parts : (a b c d : Bool) → a ≡ (b || c) → (a || (false || d)) ≡ ((((false || b) || (false || c)) || false) || d)
or-parts a true c d e = ap (λ x. x || d) e
or-parts a false true d e = ap (λ x. x || d) e
or-parts a false false d e = ap (λ x. x || d) e

pub assembled : (s : Spilling) (before behind : Gap) (is own : List Instr) (p : Planned) (ks js : List (Option ClassId × ℕ)) (gs ts ss : List Instr) (es : List Edit) → own_edits s is own ≡ es → names_slot_anew s is own ≡ false
    → with_change s before behind is (record { tinies = ks ++ js; before = gs ++ ts; own = own; behind = ss }) p
    ≡ with_addition (both (both (both (both (ranges_made ks) (put_into s before gs)) (both (ranges_made js) (put_into s before ts))) (edited es)) (put_into s behind ss)) p
assembled s before behind is own p ks js gs ts ss es e n =
    changed s before behind is (record { tinies = ks ++ js; before = gs ++ ts; own = own; behind = ss }) p
    (both (both (both (both (ranges_made ks) (put_into s before gs)) (both (ranges_made js) (put_into s before ts))) (edited es)) (put_into s behind ss))
    ((λ k. map-append put gs ts k ++ (e k ++ put_all behind ss)) ∙ sym (append_assoc (put_all before gs ++ put_all before ts) es (put_all behind ss)))
    (sym ((append-nil (((ks ++ []) ++ (js ++ [])) ++ [])) ∙ (append-nil ((ks ++ []) ++ (js ++ [])) ∙ (λ k. append-nil ks k ++ append-nil js k))))
    (ap (λ b. list_any (names_own_slot s) (gs ++ ts) || (b || list_any (names_own_slot s) ss)) n ∙ or-parts (list_any (names_own_slot s) (gs ++ ts)) (list_any (names_own_slot s) gs) (list_any (names_own_slot s) ts) (list_any (names_own_slot s) ss) (list_any-append (names_own_slot s) gs ts))
    (length-both gs ts ss)
  where
    put : Instr → Edit
    put x = edits.Put before (known_op x.op) x.operands

-- by the steps of a plan

pub replaced-by : (s : Spilling) (before behind : Gap) (i x : Instr) (op : OpId) (os : List Operand) (p q r : Planned) → names_own s i ≡ true → names_own_slot s i ≡ false → names_own_slot s x ≡ true → q ≡ with_addition slot_named p → op ≡ known_op x.op → os ≡ x.operands → r ≡ with_addition (edited (edits.Replace i.id op os ∷ [])) q → r ≡ with_change s before behind (i ∷ []) (becomes (x ∷ [])) p
replaced-by s before behind i x op os p q r own none slot a b c d =
    then-added slot_named (edited (edits.Replace i.id (known_op x.op) x.operands ∷ [])) p q r a (d ∙ (λ k. with_addition (edited (edits.Replace i.id (b k) (c k) ∷ [])) q))
    ∙ sym (replaced s before behind i x p own none slot)

pub put-erased-by : (s u : Spilling) (before behind : Gap) (i x : Instr) (p q r : Planned) → put_into u before (x ∷ []) ≡ put_into s before (x ∷ []) → q ≡ with_addition (put_into u before (x ∷ [])) p → r ≡ with_addition (edited (edits.Erase i.id ∷ [])) q → r ≡ with_change s before behind (i ∷ []) (record (becomes []) { before = x ∷ [] }) p
put-erased-by s u before behind i x p q r same a b =
    then-added (put_into s before (x ∷ [])) (edited (edits.Erase i.id ∷ [])) p q r (a ∙ ap (λ z. with_addition z p) same) b
    ∙ sym (put-erased s before behind i x p)

-- a reload in an instruction's place, and a store behind it
pub through-by : (s : Spilling) (id : ℕ) (k : Option ClassId) (from to : List Operand) (gap g : Gap) (n m c v : ℕ) (op other : OpId) (os others : List Operand) (p0 p1 p2 p3 p4 : Planned) → m ≡ n → v ≡ c → g ≡ gap
    → op ≡ opcode (option_and_then (reload_place s.target) k) → os ≡ operands.Reg (plain_definition (Virtual v) None) ∷ from
    → other ≡ opcode (option_and_then (spill_place s.target) k) → others ≡ operands.Reg (plain_use (Virtual v) None) ∷ to
    → p1 ≡ with_addition (ranges_made ((k, m) ∷ [])) p0 → p2 ≡ with_addition slot_named p1 → p3 ≡ with_addition (edited (edits.Replace id op os ∷ [])) p2 → p4 ≡ with_addition (put_into s g (made 0 other others ∷ [])) p3
    → p4 ≡ with_addition (moved_through s.target n c id gap k from to) p0
through-by s id k from to gap g n m c v op other os others p0 p1 p2 p3 p4 a1 a2 a3 o1 o2 o3 o4 e1 e2 e3 e4 =
    let q1 = ranges_made ((k, m) ∷ []) in
    let q3 = edited (edits.Replace id op os ∷ []) in
    let q4 = put_into s g (made 0 other others ∷ []) in
    let all = then-added (both (both q1 slot_named) q3) q4 p0 p3 p4 (then-added (both q1 slot_named) q3 p0 p2 p3 (then-added q1 slot_named p0 p1 p2 e1 e2) e3) e4 in
    let l = o2 ∙ ap (λ w. operands.Reg (plain_definition (Virtual w) None) ∷ from) a2 in
    let r = o4 ∙ ap (λ w. operands.Reg (plain_use (Virtual w) None) ∷ to) a2 in
    all ∙ (λ j. with_addition (record { edits = edits.Replace id (o1 j) (l j) ∷ edits.Put (a3 j) (o3 j) (r j) ∷ []; tinies = (k, a1 j) ∷ []; uses_slot = true; new = 1 }) p0)
