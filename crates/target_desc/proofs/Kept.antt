-- A line that stands keeps the rules of the target so far.
use Rattle.std.proofs.Common.{◌≡◌, ℕ, ◌≤◌, List, [], ◌∷◌, ◌++◌, length, length-append, drop, map, Bool, true, ap, ◌∙◌, arith}
use Rattle.std.specs.Prelude.{◌&&◌, nat_lt, nat_le}
use Rattle.std.specs.List.{list_all}
use Rattle.std.proofs.lemmas.Bool.{ltb-true, le-leb}
use Rattle.std.proofs.lemmas.List.{map_push, length_push}
use Rattle.target_base.specs.declared.types.UnitDesc.{UnitDesc}
use Rattle.target_base.specs.declared.types.RegDesc.{RegDesc}
use Rattle.target_base.specs.declared.types.IndexDesc.{IndexDesc}
use Rattle.target_base.specs.declared.types.ClassDesc.{ClassDesc}
use Rattle.target_base.specs.declared.types.MaskDesc.{MaskDesc}
use Rattle.target_base.specs.declared.types.OpcodeDesc.{OpcodeDesc}
use Rattle.target_base.specs.Names.{are_distinct_names}
use Rattle.target_base.specs.Rules.{is_unit_desc, is_reg_desc, is_index_desc, is_class_desc, is_mask_desc, is_opcode_desc, are_units, are_regs, are_indexes, are_classes, are_masks, are_opcodes}
use Rattle.target_base.proofs.Tests.{first_of_both, second_of_both}
use Rattle.word_set.specs.Words.{is_fresh}
use Rattle.target_desc.proofs.Grown.{both, all_kept, all_push, distinct_push}
use Rattle.target_desc.proofs.SameWidths.{reg_kept, same_widths, class_kept, mask_kept}
use Rattle.target_desc.proofs.RolesKept.{opcode_kept, five_kept, drop_five}

-- A list of at most `most` elements that keep a rule and have distinct names, with one more. It gives the three parts.
grown : {X : Type 0} (name : X → List ℕ) (rule : X → Bool) (most : ℕ) (xs : List X) (x : X) → nat_lt (length xs) most ≡ true → rule x ≡ true → is_fresh (map name xs) (name x) ≡ true
    → (nat_le (length xs) most && list_all rule xs && are_distinct_names (map name xs)) ≡ true
    → (nat_le (length (xs ++ x ∷ [])) most && list_all rule (xs ++ x ∷ []) && are_distinct_names (map name (xs ++ x ∷ []))) ≡ true
grown name rule most xs x room good fresh h =
    let few = ltb-true (length xs) most room in
    let count : nat_le (length (xs ++ x ∷ [])) most ≡ true = le-leb _ _ (omega (arith, length_push xs x)) in
    let distinct : are_distinct_names (map name (xs ++ x ∷ [])) ≡ true = ap are_distinct_names (map_push name xs x) ∙ distinct_push (map name xs) (name x) (second_of_both _ _ h) fresh in
    both _ _ (both _ _ count (all_push rule xs x (second_of_both _ _ (first_of_both _ _ h)) good)) distinct

-- the same list under another rule
ruled_anew : {X : Type 0} (p q : X → Bool) (count distinct : Bool) (xs : List X) → ((x : X) → p x ≡ true → q x ≡ true) → (count && list_all p xs && distinct) ≡ true → (count && list_all q xs && distinct) ≡ true
ruled_anew p q count distinct xs f h = both _ _ (both _ _ (first_of_both _ _ (first_of_both _ _ h)) (all_kept p q xs f (second_of_both _ _ (first_of_both _ _ h)))) (second_of_both _ _ h)

each_reg : (version : ℕ) (units : List UnitDesc) (regs : List RegDesc) → are_regs version units regs ≡ true → list_all (is_reg_desc version units) regs ≡ true
each_reg version units regs h = second_of_both _ _ (first_of_both _ _ h)

each_class : (units : List UnitDesc) (regs : List RegDesc) (classes : List ClassDesc) → are_classes units regs classes ≡ true → list_all (is_class_desc units regs) classes ≡ true
each_class units regs classes h = second_of_both _ _ (first_of_both _ _ h)

pub longer : {X : Type 0} (xs ys : List X) → length xs ≤ length (xs ++ ys)
longer xs ys = omega (arith, length-append xs ys)

-- more units
pub regs_kept : (version : ℕ) (units us : List UnitDesc) (regs : List RegDesc) → are_regs version units regs ≡ true → are_regs version (units ++ us) regs ≡ true
regs_kept version units us regs h = ruled_anew (is_reg_desc version units) (is_reg_desc version (units ++ us)) _ _ regs (λ r. reg_kept version units us r) h

-- more units and registers
pub classes_kept : (version : ℕ) (units us : List UnitDesc) (regs rs : List RegDesc) (classes : List ClassDesc) → are_regs version units regs ≡ true → are_classes units regs classes ≡ true → are_classes (units ++ us) (regs ++ rs) classes ≡ true
classes_kept version units us regs rs classes r h =
    let same = same_widths version units us regs rs (each_reg version units regs r) in
    ruled_anew (is_class_desc units regs) (is_class_desc (units ++ us) (regs ++ rs)) _ _ classes (λ c. class_kept units regs (units ++ us) (regs ++ rs) same c (longer regs rs)) h

pub masks_kept : (regs rs : List RegDesc) (masks : List MaskDesc) → are_masks (length regs) masks ≡ true → are_masks (length (regs ++ rs)) masks ≡ true
masks_kept regs rs masks h = ruled_anew (is_mask_desc (length regs)) (is_mask_desc (length (regs ++ rs))) _ _ masks (λ m. mask_kept _ _ m (longer regs rs)) h

-- more units, registers and classes
pub opcodes_kept : (version : ℕ) (units us : List UnitDesc) (regs rs : List RegDesc) (classes cs : List ClassDesc) (opcodes : List OpcodeDesc) → are_regs version units regs ≡ true → are_classes units regs classes ≡ true → are_opcodes units regs classes opcodes ≡ true → are_opcodes (units ++ us) (regs ++ rs) (classes ++ cs) opcodes ≡ true
opcodes_kept version units us regs rs classes cs opcodes r k h =
    let same = same_widths version units us regs rs (each_reg version units regs r) in
    ruled_anew (is_opcode_desc units regs classes) (is_opcode_desc (units ++ us) (regs ++ rs) (classes ++ cs)) _ _ (drop 5 opcodes)
    (λ o. opcode_kept units regs (units ++ us) (regs ++ rs) same classes cs o (longer regs rs) (longer classes cs) (each_class units regs classes k)) h

pub units_grown : (units : List UnitDesc) (u : UnitDesc) → (nat_lt (length units) 512 && is_unit_desc u) ≡ true → is_fresh (map (λ x. x.name) units) u.name ≡ true → are_units units ≡ true → are_units (units ++ u ∷ []) ≡ true
units_grown units u s f h = grown (λ x. x.name) is_unit_desc 512 units u (first_of_both _ _ s) (second_of_both _ _ s) f h

pub regs_grown : (version : ℕ) (units : List UnitDesc) (regs : List RegDesc) (r : RegDesc) → (nat_lt (length regs) 512 && is_reg_desc version units r) ≡ true → is_fresh (map (λ x. x.name) regs) r.name ≡ true → are_regs version units regs ≡ true → are_regs version units (regs ++ r ∷ []) ≡ true
regs_grown version units regs r s f h = grown (λ x. x.name) (is_reg_desc version units) 512 regs r (first_of_both _ _ s) (second_of_both _ _ s) f h

pub indexes_grown : (version : ℕ) (indexes : List IndexDesc) (x : IndexDesc) → (nat_lt (length indexes) 512 && is_index_desc version x) ≡ true → is_fresh (map (λ x. x.name) indexes) x.name ≡ true → are_indexes version indexes ≡ true → are_indexes version (indexes ++ x ∷ []) ≡ true
indexes_grown version indexes x s f h = grown (λ x. x.name) (is_index_desc version) 512 indexes x (first_of_both _ _ s) (second_of_both _ _ s) f h

pub classes_grown : (units : List UnitDesc) (regs : List RegDesc) (classes : List ClassDesc) (x : ClassDesc) → (nat_lt (length classes) 512 && is_class_desc units regs x) ≡ true → is_fresh (map (λ x. x.name) classes) x.name ≡ true → are_classes units regs classes ≡ true → are_classes units regs (classes ++ x ∷ []) ≡ true
classes_grown units regs classes x s f h = grown (λ x. x.name) (is_class_desc units regs) 512 classes x (first_of_both _ _ s) (second_of_both _ _ s) f h

pub masks_grown : (n : ℕ) (masks : List MaskDesc) (x : MaskDesc) → (nat_lt (length masks) 512 && is_mask_desc n x) ≡ true → is_fresh (map (λ x. x.name) masks) x.name ≡ true → are_masks n masks ≡ true → are_masks n (masks ++ x ∷ []) ≡ true
masks_grown n masks x s f h = grown (λ x. x.name) (is_mask_desc n) 512 masks x (first_of_both _ _ s) (second_of_both _ _ s) f h

pub opcodes_grown : (units : List UnitDesc) (regs : List RegDesc) (classes : List ClassDesc) (opcodes : List OpcodeDesc) (x : OpcodeDesc) → (nat_lt (length opcodes) 1024 && is_opcode_desc units regs classes x) ≡ true → is_fresh (map (λ x. x.name) opcodes) x.name ≡ true → are_opcodes units regs classes opcodes ≡ true → are_opcodes units regs classes (opcodes ++ x ∷ []) ≡ true
opcodes_grown units regs classes opcodes x s f h =
    let few = ltb-true (length opcodes) 1024 (first_of_both _ _ s) in
    let count : nat_le (length (opcodes ++ x ∷ [])) 1024 ≡ true = le-leb _ _ (omega (arith, length_push opcodes x)) in
    let five = second_of_both _ _ (first_of_both _ _ (first_of_both _ _ h)) in
    let each : list_all (is_opcode_desc units regs classes) (drop 5 (opcodes ++ x ∷ [])) ≡ true = ap (list_all (is_opcode_desc units regs classes)) (drop_five opcodes (x ∷ []) five) ∙ all_push (is_opcode_desc units regs classes) (drop 5 opcodes) x (second_of_both _ _ (first_of_both _ _ h)) (second_of_both _ _ s) in
    let distinct : are_distinct_names (map (λ o. o.name) (opcodes ++ x ∷ [])) ≡ true = ap are_distinct_names (map_push (λ o. o.name) opcodes x) ∙ distinct_push (map (λ o. o.name) opcodes) x.name (second_of_both _ _ h) f in
    both _ _ (both _ _ (both _ _ count (five_kept opcodes (x ∷ []) five)) each) distinct
