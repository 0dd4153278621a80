-- What a target's look-ups find, by its rules.
use Rattle.std.proofs.Common.{subst, ◌≡◌, ℕ, ◌<◌, ◌≢◌, List, [], ◌∷◌, length, Some, None, Bool, true, false, refl, ap, sym, ◌∙◌, arith, get_or}
use Rattle.std.specs.Prelude.{◌&&◌, ◌||◌, not, Option, slice_get, position, option_map, unwrap_or, IfSome, find, filter, cond}
use Rattle.std.specs.List.{list_all, list_any}
use Rattle.std.proofs.lemmas.Option.{slice_get-get_or}
use Rattle.std.proofs.lemmas.List.{length-map}
use Rattle.std.proofs.lemmas.Bool.Decides.{Decides-eqb}
use Rattle.target_base.specs.declared.types.Unit.{Unit as UnitNumber}
use Rattle.target_base.specs.declared.types.Reg.{Reg}
use Rattle.target_base.specs.declared.types.ClassId.{ClassId}
use Rattle.target_base.specs.declared.types.IndexId.{IndexId}
use Rattle.target_base.specs.declared.types.UnitDesc.{UnitDesc}
use Rattle.target_base.specs.declared.types.RegDesc.{RegDesc}
use Rattle.target_base.specs.declared.types.IndexDesc.{IndexDesc}
use Rattle.target_base.specs.declared.types.ClassDesc.{ClassDesc}
use Rattle.target_base.specs.declared.types.MaskDesc.{MaskDesc}
use Rattle.target_base.specs.declared.types.OpcodeDesc.{OpcodeDesc}
use Rattle.target_base.specs.declared.types.Role.{Role}
use Rattle.target_base.specs.declared.types.Target.{Target}
use Rattle.target_base.specs.Storage.{class_regs, regs_in, sub_place, part_place, is_picked, holds_subs, holds_reg, lanes_fit, same_numbers, class_widths, widths, unit_width, alike_place}
use Rattle.target_base.specs.Numbers.{class_number}
use Rattle.target_base.specs.Registers.{lanes_in, lanes_of, regs_of, IsClass, HasIndex, fits, part_of, class_of_widths, widths_of_some, move_class}
use Rattle.target_base.specs.Roles.{first_implicit}
use Rattle.target_base.specs.Rules.{is_sound, spills, reloads, is_complete, part_is_there, is_found}
use Rattle.target_base.proofs.Tests.{first_of_both, second_of_both, each_passes, position_within, position_there, position_found}
use Rattle.target_base.proofs.Sound.{complete_sound}

pub sub_place_within : (regs : List RegDesc) (us : List UnitNumber) (lanes : List ℕ) (k : ℕ) → sub_place regs us lanes ≡ Some k → k < length regs
sub_place_within regs us lanes k e = position_within (λ d. is_picked us lanes d.units) regs k e

pub part_place_within : (regs : List RegDesc) (classes : List ClassDesc) (lanes : List ℕ) (rs : List Reg) (k : ℕ) → part_place regs classes lanes rs ≡ Some k → k < length classes
part_place_within regs classes lanes rs k e = position_within (λ d. holds_subs regs lanes rs d.regs) classes k e

pub home_place_within : (classes : List ClassDesc) (r : Reg) (k : ℕ) → position (λ d. holds_reg d.regs r) classes ≡ Some k → k < length classes
home_place_within classes r k e = position_within (λ d. holds_reg d.regs r) classes k e

pub alike_place_within : (units : List UnitDesc) (regs : List RegDesc) (classes : List ClassDesc) (rs : List Reg) (k : ℕ) → alike_place units regs classes rs ≡ Some k → k < length classes
alike_place_within units regs classes rs k e = position_within (λ d. same_numbers (class_widths units regs d.regs) (class_widths units regs rs)) classes k e

pub spill_place_within : (classes : List ClassDesc) (rs : List Reg) (opcodes : List OpcodeDesc) (k : ℕ) → position (spills classes rs) opcodes ≡ Some k → k < length opcodes
spill_place_within classes rs opcodes k e = position_within (spills classes rs) opcodes k e

pub reload_place_within : (classes : List ClassDesc) (rs : List Reg) (opcodes : List OpcodeDesc) (k : ℕ) → position (reloads classes rs) opcodes ≡ Some k → k < length opcodes
reload_place_within classes rs opcodes k e = position_within (reloads classes rs) opcodes k e

nowhere : ClassDesc
nowhere = record { name = []; regs = [] }

no_index : IndexDesc
no_index = record { name = []; lanes = [] }

class_regs_at : (classes : List ClassDesc) (k : ClassId) (d : ClassDesc) → k.0 < length classes → class_regs classes k ≡ (get_or classes k.0 d).regs
class_regs_at classes k d h = ap regs_in (slice_get-get_or classes k.0 d h)

complete_at : (name : List ℕ) (version : ℕ) (units : List UnitDesc) (regs : List RegDesc) (reserved : List UnitNumber) (indexes : List IndexDesc) (classes : List ClassDesc) (masks : List MaskDesc) (opcodes : List OpcodeDesc) → is_sound name version units regs reserved indexes classes masks opcodes ≡ true → (k : ClassId) → k.0 < length classes → is_complete regs reserved indexes classes opcodes (get_or classes k.0 nowhere) ≡ true
complete_at name version units regs reserved indexes classes masks opcodes s k h = each_passes (is_complete regs reserved indexes classes opcodes) classes k.0 nowhere h (complete_sound name version units regs reserved indexes classes masks opcodes s)

pub spill_there : (name : List ℕ) (version : ℕ) (units : List UnitDesc) (regs : List RegDesc) (reserved : List UnitNumber) (indexes : List IndexDesc) (classes : List ClassDesc) (masks : List MaskDesc) (opcodes : List OpcodeDesc) → is_sound name version units regs reserved indexes classes masks opcodes ≡ true → (k : ClassId) → k.0 < length classes → position (spills classes (class_regs classes k)) opcodes ≡ None → ⊥
spill_there name version units regs reserved indexes classes masks opcodes s k h e =
    let p = complete_at name version units regs reserved indexes classes masks opcodes s k h in
    let there : list_any (spills classes (get_or classes k.0 nowhere).regs) opcodes ≡ true = first_of_both _ _ (first_of_both _ _ (first_of_both _ _ p)) in
    position_there (spills classes (class_regs classes k)) opcodes (ap (λ rs. list_any (spills classes rs) opcodes) (class_regs_at classes k nowhere h) ∙ there) e

pub reload_there : (name : List ℕ) (version : ℕ) (units : List UnitDesc) (regs : List RegDesc) (reserved : List UnitNumber) (indexes : List IndexDesc) (classes : List ClassDesc) (masks : List MaskDesc) (opcodes : List OpcodeDesc) → is_sound name version units regs reserved indexes classes masks opcodes ≡ true → (k : ClassId) → k.0 < length classes → position (reloads classes (class_regs classes k)) opcodes ≡ None → ⊥
reload_there name version units regs reserved indexes classes masks opcodes s k h e =
    let p = complete_at name version units regs reserved indexes classes masks opcodes s k h in
    let there : list_any (reloads classes (get_or classes k.0 nowhere).regs) opcodes ≡ true = second_of_both _ _ (first_of_both _ _ (first_of_both _ _ p)) in
    position_there (reloads classes (class_regs classes k)) opcodes (ap (λ rs. list_any (reloads classes rs) opcodes) (class_regs_at classes k nowhere h) ∙ there) e

found_where_it_fits : (b : Bool) (o : Option ℕ) → (not b || is_found o) ≡ true → b ≡ true → o ≡ None → ⊥
found_where_it_fits true None h f e = cc
found_where_it_fits true (Some k) h f e = cc
found_where_it_fits false o h f e = cc

pub part_there : (name : List ℕ) (version : ℕ) (units : List UnitDesc) (regs : List RegDesc) (reserved : List UnitNumber) (indexes : List IndexDesc) (classes : List ClassDesc) (masks : List MaskDesc) (opcodes : List OpcodeDesc) → is_sound name version units regs reserved indexes classes masks opcodes ≡ true → (k : ClassId) (i : IndexId) → k.0 < length classes → i.0 < length indexes → lanes_fit regs (lanes_in (slice_get indexes i.0)) (class_regs classes k) ≡ true → part_place regs classes (lanes_in (slice_get indexes i.0)) (class_regs classes k) ≡ None → ⊥
part_there name version units regs reserved indexes classes masks opcodes s k i h g fits e =
    let p = complete_at name version units regs reserved indexes classes masks opcodes s k h in
    let all : list_all (part_is_there regs classes (get_or classes k.0 nowhere).regs) indexes ≡ true = second_of_both _ _ p in
    let here = each_passes (part_is_there regs classes (get_or classes k.0 nowhere).regs) indexes i.0 no_index g all in
    let rs_is = class_regs_at classes k nowhere h in
    let lanes_is = ap lanes_in (slice_get-get_or indexes i.0 no_index g) in
    let lanes = (get_or indexes i.0 no_index).lanes in
    let rs = (get_or classes k.0 nowhere).regs in
    let fits_there : lanes_fit regs lanes rs ≡ true = ap (λ ls. lanes_fit regs ls rs) (sym lanes_is) ∙ (ap (lanes_fit regs (lanes_in (slice_get indexes i.0))) (sym rs_is) ∙ fits) in
    let none_there : part_place regs classes lanes rs ≡ None = ap (λ ls. part_place regs classes ls rs) (sym lanes_is) ∙ (ap (part_place regs classes (lanes_in (slice_get indexes i.0))) (sym rs_is) ∙ e) in
    found_where_it_fits (lanes_fit regs lanes rs) (part_place regs classes lanes rs) here fits_there none_there

pub same_numbers_refl : (ns : List ℕ) → same_numbers ns ns ≡ true
same_numbers_refl [] = refl
same_numbers_refl (n ∷ ns) = ap (λ b. b && same_numbers ns ns) ((Decides-eqb n n).1 refl) ∙ same_numbers_refl ns

-- a class is among those of its widths
pub alike_there : (units : List UnitDesc) (regs : List RegDesc) (classes : List ClassDesc) (k : ClassId) → k.0 < length classes → alike_place units regs classes (class_regs classes k) ≡ None → ⊥
alike_there units regs classes k h e =
    position_found (λ d. same_numbers (class_widths units regs d.regs) (class_widths units regs (class_regs classes k))) classes k.0 nowhere h
    (ap (λ rs. same_numbers (class_widths units regs (get_or classes k.0 nowhere).regs) (class_widths units regs rs)) (class_regs_at classes k nowhere h) ∙ same_numbers_refl (class_widths units regs (get_or classes k.0 nowhere).regs)) e

differs : (b c : Bool) → c ≡ false → (b && c) ≡ false
differs true c h = h
differs false c h = refl

pub same_numbers_lengths : (ms ns : List ℕ) → length ms ≢ length ns → same_numbers ms ns ≡ false
same_numbers_lengths [] [] h = absurd (h refl)
same_numbers_lengths [] (n ∷ ns) h = refl
same_numbers_lengths (m ∷ ms) [] h = refl
same_numbers_lengths (m ∷ ms) (n ∷ ns) h = differs _ _ (same_numbers_lengths ms ns (λ e. h (omega (arith, e))))

-- lists of other lengths have other widths
pub widths_lengths : (units : List UnitDesc) (a b : List UnitNumber) → length a ≢ length b → same_numbers (widths units a) (widths units b) ≡ false
widths_lengths units a b h = same_numbers_lengths (widths units a) (widths units b) (λ e. h (sym (length-map a (unit_width units)) ∙ (e ∙ length-map b (unit_width units))))

-- a value that is there is what is taken
pub taken_there : {X : Type 0} → (o : Option X) (x r : X) → r ≡ unwrap_or o x → (o ≡ None → ⊥) → o ≡ Some r
taken_there None x r e h = absurd (h refl)
taken_there (Some y) x r e h = ap Some (sym e)

-- what holds of a value that is there holds of what is taken
pub holds_taken : {X : Type 0} (P : X → Type 0) (o : Option X) (x r : X) → r ≡ unwrap_or o x → IfSome o P → (o ≡ None → ⊥) → P r
holds_taken P None x r e h n = absurd (n refl)
holds_taken P (Some y) x r e h n = subst P (sym e) h

nothing_mapped : {X Y : Type 0} (f : X → Y) (o : Option X) → option_map f o ≡ None → o ≡ None
nothing_mapped f None e = refl
nothing_mapped f (Some x) e = cc

-- a class has a part for each index that fits it
pub part_found : (t : Target) (k : ClassId) (i : Option IndexId) → IsClass t k → HasIndex t i → fits t k i ≡ true → part_of t k i ≡ None → ⊥
part_found t k None h g f e = cc
part_found t k (Some i) h g f e = part_there _ _ _ _ _ _ _ _ _ t.sound k i h g f (nothing_mapped class_number (part_place t.regs t.classes (lanes_of t i) (regs_of t k)) e)

class_there : (t : Target) (o : Option ℕ) → ((k : ℕ) → o ≡ Some k → k < length t.classes) → IfSome (option_map class_number o) (IsClass t)
class_there t None h = tt
class_there t (Some k) h = h k refl

pub part_is_class : (t : Target) (k : ClassId) (i : Option IndexId) → IsClass t k → IfSome (part_of t k i) (IsClass t)
part_is_class t k None h = h
part_is_class t k (Some i) h = class_there t _ (part_place_within t.regs t.classes (lanes_of t i) (regs_of t k))

alike_found : (t : Target) (o : Option ClassId) → (o ≡ None → ⊥) → IfSome o (IsClass t) → class_of_widths t (widths_of_some t o) ≡ None → ⊥
alike_found t None n h e = n refl
alike_found t (Some k) n h e = alike_there t.units t.regs t.classes k h (nothing_mapped class_number (alike_place t.units t.regs t.classes (regs_of t k)) e)

-- and so it has a class that its part is copied through
pub move_found : (t : Target) (k : ClassId) (i : Option IndexId) → IsClass t k → HasIndex t i → fits t k i ≡ true → move_class t k i ≡ None → ⊥
move_found t k i h g f e = alike_found t (part_of t k i) (part_found t k i h g f) (part_is_class t k i h) e

-- the first that passes a test is the first of those that do
pub first_found : (p : Role → Bool) (rs : List Role) → find p rs ≡ first_implicit (filter p rs)
first_found p [] = refl
first_found p (r ∷ rs) = go (p r) (first_found p rs)
  where
    go : (b : Bool) → find p rs ≡ first_implicit (filter p rs) → cond b (Some r) (find p rs) ≡ first_implicit (cond b (r ∷ filter p rs) (filter p rs))
    go true h = refl
    go false h = h
