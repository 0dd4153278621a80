-- The tinies of a place by the records that are kept of them, and by the definition.
use Rattle.std.proofs.Common.{◌≡◌, ◌∙◌, ℕ, suc, Bool, true, false, cond, not, ◌&&◌, ◌||◌, List, [], ◌∷◌, ◌++◌, Option, Some, None, flat_map, map, refl, sym, ap}
use Rattle.std.specs.Prelude.{filter_map, find, nat_eq, option_and_then, option_map}
use Rattle.std.specs.List.{AllByRecursion, cons_option, list_any}
use Rattle.target_base.specs.declared.types.IndexId.{IndexId}
use Rattle.target_base.specs.declared.types.Role.{Role}
use Rattle.mir_func.specs.declared.func.Loc.TheVariants.{Virtual}
use Rattle.mir_func.specs.declared.func.RegOp.{RegOp}
use Rattle.mir_func.specs.declared.func.Operand.{Operand}
use Rattle.mir_func.specs.declared.func.Operand.TheVariants as operands
use Rattle.mir_func.specs.declared.func.Instr.{Instr}
use Rattle.mir_func.specs.Binding.{Bound, explicit_bound, explicit_roles, numbered, operand_class, roles_of, tied_number}
use Rattle.mir_func.proofs.Bound.{bound_operands}
use Rattle.mir_meaning.specs.Places.{Variable}
use Rattle.live_edits.specs.declared.edit.Edit.{Edit}
use Rattle.live_edits.specs.declared.edit.Edit.TheVariants as edits
use Rattle.spiller.specs.declared.roles.IndexedClass.{IndexedClass}
use Rattle.spiller.specs.declared.seats.ReadTiny.{ReadTiny}
use Rattle.spiller.specs.declared.seats.DefinedTiny.{DefinedTiny}
use Rattle.spiller.specs.Reaching.{Facts}
use Rattle.spiller.specs.Setting.{Spilling, in_own_slot, is_live_behind, is_own, own_lanes, plain_definition, plain_use, reload, store}
use Rattle.spiller.specs.Rematerialised.{repeated, repeated_for, way_reading}
use Rattle.spiller.specs.Spilled.{OwnDefinition, Seats, as_tiny, definitions_in, given, is_slot, numbered_operands, own_definition, seated, seated_operand, stored, tiny_defined, tiny_of, tiny_read, tiny_used, with_tinies}
use Rattle.spiller.specs.Views.{tiny_by_number, tiny_of_way, way_of, ways_of}
use Rattle.spiller.specs.Planned.{known_op, names_own, names_own_slot, names_slot_anew, own_edits}
use Rattle.spiller.specs.Additions.{given_from, own_definitions}
use Rattle.spiller.specs.Placing.{LiveAlike}
use Rattle.spiller.specs.Seating.{defined_tiny, placed, placed_edits, placed_operand, read_tiny, stored_tiny, tiny_of_operand, tiny_of_use}

-- the same spill where other facts hold of paths
abbrev pub under : Facts → Spilling → Spilling
under facts s = record s { facts = facts }

-- definitions

own-alike : (facts : Facts) (s : Spilling) (i : Instr) (ps : List (ℕ × Bound)) → filter_map (own_definition s i) ps ≡ filter_map (own_definition (under facts s) i) ps
own-alike facts s i [] = refl
own-alike facts s i ((n, (r, operands.Reg o)) ∷ ps) = ap (cons_option (own_definition s i (n, (r, operands.Reg o)))) (own-alike facts s i ps)
own-alike facts s i ((n, (r, o)) ∷ ps) = own-alike facts s i ps

pub definitions-are : (facts : Facts) (s : Spilling) (is : List Instr) → definitions_in s is ≡ flat_map (own_definitions (under facts s)) is
definitions-are facts s [] = refl
definitions-are facts s (i ∷ is) = λ k. own-alike facts s i (numbered_operands s.target i) k ++ definitions-are facts s is k

-- values that are given

pub given-is : (facts : Facts) (s : Spilling) (is : List Instr) (p : ℕ × Variable) → given s is p ≡ given_from (under facts s) (repeated_for s (way_reading s is p.1)) p
given-is facts s is p = go (repeated_for s (way_reading s is p.1)) refl
  where
    go : (q : Option Instr) → repeated_for s (way_reading s is p.1) ≡ q → given s is p ≡ given_from (under facts s) (repeated_for s (way_reading s is p.1)) p
    go None e = ap (λ q. elim q as (λ q. Instr) [ None ↦ reload s.target p.1.class (plain_definition (Virtual p.0) None) (in_own_slot s p.1.index) | Some d ↦ repeated d (plain_definition (Virtual p.0) None) ]) e ∙ sym (ap (λ q. given_from (under facts s) q p) e)
    go (Some d) e = ap (λ q. elim q as (λ q. Instr) [ None ↦ reload s.target p.1.class (plain_definition (Virtual p.0) None) (in_own_slot s p.1.index) | Some d ↦ repeated d (plain_definition (Virtual p.0) None) ]) e ∙ sym (ap (λ q. given_from (under facts s) q p) e)

pub all-given : (facts : Facts) (s : Spilling) (is : List Instr) (ps : List (ℕ × Variable)) → map (given s is) ps ≡ map (λ p. given_from (under facts s) (repeated_for s (way_reading s is p.1)) p) ps
all-given facts s is [] = refl
all-given facts s is (p ∷ ps) = λ k. given-is facts s is p k ∷ all-given facts s is ps k

-- stores

lanes-alike : (facts : Facts) (s : Spilling) (x : Option IndexId) → own_lanes s x ≡ own_lanes (under facts s) x
lanes-alike facts s None = refl
lanes-alike facts s (Some x) = refl

any-alike : (f g : ℕ → Bool) (xs : List ℕ) → ((n : ℕ) → f n ≡ g n) → list_any f xs ≡ list_any g xs
any-alike f g [] e = refl
any-alike f g (x ∷ xs) e = λ k. e x k || any-alike f g xs e k

pub live-alike : (facts : Facts) (s : Spilling) (i : Instr) (x : Option IndexId) → LiveAlike s.facts facts i → is_live_behind s i x ≡ is_live_behind (under facts s) i x
live-alike facts s i x e = any-alike (s.facts.live_behind i.id) (facts.live_behind i.id) (own_lanes s x) e ∙ ap (list_any (facts.live_behind i.id)) (lanes-alike facts s x)

pub stores-are : (facts : Facts) (s : Spilling) (ds : List (ℕ × OwnDefinition)) → AllByRecursion (λ p. LiveAlike s.facts facts p.1.by) ds → flat_map (stored s) ds ≡ flat_map (stored_tiny (under facts s)) (map defined_tiny ds)
stores-are facts s [] h = refl
stores-are facts s (p ∷ ds) h =
    let made = store s.target p.1.class (plain_use (Virtual p.0) None) (in_own_slot s p.1.index) in
    λ k. cond (live-alike facts s p.1.by p.1.index h.0 k) (made ∷ []) [] ++ stores-are facts s ds h.1 k

-- tinies by the records

by-number : (ds : List (ℕ × OwnDefinition)) (by n : ℕ) → tiny_by_number (map defined_tiny ds) by n ≡ option_map (λ p. p.0) (find (λ p. nat_eq p.1.by.id by && nat_eq p.1.number n) ds)
by-number [] by n = refl
by-number (d ∷ ds) by n = go (nat_eq d.1.by.id by && nat_eq d.1.number n) (by-number ds by n)
  where
    go : (b : Bool) → tiny_by_number (map defined_tiny ds) by n ≡ option_map (λ p. p.0) (find (λ p. nat_eq p.1.by.id by && nat_eq p.1.number n) ds) → option_map (λ (x : DefinedTiny). x.range) (cond b (Some (defined_tiny d)) (find (λ x. nat_eq x.by by && nat_eq x.number n) (map defined_tiny ds))) ≡ option_map (λ (p : ℕ × OwnDefinition). p.0) (cond b (Some d) (find (λ p. nat_eq p.1.by.id by && nat_eq p.1.number n) ds))
    go true h = refl
    go false h = h

-- ways of reading as they are kept
pub ways-kept : (v n : ℕ) (xs : List IndexedClass) → ways_of v (map read_tiny (numbered n (map (way_of v) xs))) ≡ numbered n (map (way_of v) xs)
ways-kept v n [] = refl
ways-kept v n (x ∷ xs) = ap (λ ps. (n, way_of v x) ∷ ps) (ways-kept v (suc n) xs)

module _ (facts : Facts) (s : Spilling) (x : Seats) (reads : List ReadTiny) (ways : ways_of s.range reads ≡ x.ways) where
  abbrev defs : List DefinedTiny
  defs = map defined_tiny x.definitions

  abbrev u : Spilling
  u = under facts s

  use-alike : (i : Instr) (r : Option Role) (o : RegOp) → tiny_used s x i r o ≡ tiny_of_use u reads defs i.id r o
  use-alike i r o = go (option_and_then tied_number r)
    where
      key : IndexedClass
      key = record { index = o.index; class = operand_class s.target s.func r o }

      go : (q : Option ℕ) → elim q as (λ q. Option ℕ) [ None ↦ cond o.undef None (tiny_read s x r o) | Some n ↦ tiny_defined x i n ] ≡ elim q as (λ q. Option ℕ) [ None ↦ cond o.undef None (tiny_of_way s.range key (ways_of s.range reads)) | Some n ↦ tiny_by_number defs i.id n ]
      go None = ap (λ ws. cond o.undef None (tiny_of_way s.range key ws)) (sym ways)
      go (Some n) = sym (by-number x.definitions i.id n)

  operand-alike : (i : Instr) (n : ℕ) (r : Option Role) (o : RegOp) → tiny_of s x i n r o ≡ tiny_of_operand u reads defs i.id n r o
  operand-alike i n r o = λ k. cond o.def (sym (by-number x.definitions i.id n) k) (use-alike i r o k)

  seat-alike : (i : Instr) (n : ℕ) (r : Option Role) (o : RegOp) → seated s x i n r o ≡ cond (is_own s o) (placed u reads defs i.id n r o) o
  seat-alike i n r o = ap (λ q. cond (is_own s o) (elim q as (λ q. RegOp) [ None ↦ o | Some c ↦ as_tiny o c ]) o) (operand-alike i n r o)

  seats-alike : (i : Instr) (ps : List (ℕ × Bound)) → map (seated_operand s x i) ps ≡ map (placed_operand u reads defs i.id) ps
  seats-alike i [] = refl
  seats-alike i ((n, (r, operands.Reg o)) ∷ ps) = λ k. operands.Reg (seat-alike i n r o k) ∷ seats-alike i ps k
  seats-alike i ((n, (r, o)) ∷ ps) = ap (λ ys. o ∷ ys) (seats-alike i ps)

  -- the edits of a place
  pub edits-are : (is : List Instr) → own_edits s is (map (with_tinies s x) is) ≡ flat_map (placed_edits u reads defs) is
  edits-are [] = refl
  edits-are (i ∷ is) = go (names_own s i) (edits-are is)
    where
      edit : List Operand → Edit
      edit os = edits.Replace i.id (known_op i.op) os

      go : (b : Bool) → own_edits s is (map (with_tinies s x) is) ≡ flat_map (placed_edits u reads defs) is → cond b (edit (map (seated_operand s x i) (numbered_operands s.target i)) ∷ own_edits s is (map (with_tinies s x) is)) (own_edits s is (map (with_tinies s x) is)) ≡ cond b (edit (map (placed_operand u reads defs i.id) (numbered_operands s.target i)) ∷ []) [] ++ flat_map (placed_edits u reads defs) is
      go true h = λ k. edit (seats-alike i (numbered_operands s.target i) k) ∷ h k
      go false h = h

-- tinies name no slot

module _ (s : Spilling) (x : Seats) where
  slots-kept : (n : ℕ) (i : Instr) (ps : List (ℕ × Bound)) → list_any (is_slot n) (map (seated_operand s x i) ps) ≡ list_any (is_slot n) (map (λ p. p.1.1) ps)
  slots-kept n i [] = refl
  slots-kept n i ((m, (r, operands.Reg o)) ∷ ps) = slots-kept n i ps
  slots-kept n i ((m, (r, o)) ∷ ps) = ap (λ b. is_slot n o || b) (slots-kept n i ps)

  things : (n : ℕ) (bs : List Bound) → map (λ p. p.1.1) (numbered n bs) ≡ map (λ b. b.1) bs
  things n [] = refl
  things n (b ∷ bs) = ap (λ ys. b.1 ∷ ys) (things (suc n) bs)

  slot-kept : (i : Instr) → names_own_slot s (with_tinies s x i) ≡ names_own_slot s i
  slot-kept i = slots-kept s.slot i (numbered_operands s.target i) ∙ ap (list_any (is_slot s.slot)) (things 0 (explicit_bound (explicit_roles (roles_of s.target i)) i.operands) ∙ bound_operands (explicit_roles (roles_of s.target i)) i.operands)

  all-kept : (is : List Instr) → list_any (names_own_slot s) (map (with_tinies s x) is) ≡ list_any (names_own_slot s) is
  all-kept [] = refl
  all-kept (i ∷ is) = λ k. slot-kept i k || all-kept is k

  pub none-anew : (is : List Instr) → names_slot_anew s is (map (with_tinies s x) is) ≡ false
  none-anew is = ap (λ b. not (list_any (names_own_slot s) is) && b) (all-kept is) ∙ never (list_any (names_own_slot s) is)
    where
      never : (b : Bool) → (not b && b) ≡ false
      never true = refl
      never false = refl
