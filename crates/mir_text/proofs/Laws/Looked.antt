-- What the names of a target give is a class of it.
use Rattle.std.proofs.Common.{◌≡◌, ℕ, List, [], ◌∷◌, Option, Some, None, Result, Ok, Err, map, Bool, true, false, refl, arith}
use Rattle.std.specs.Prelude.{IfOk, IfSome, position, option_map, if◌then◌else◌}
use Rattle.std.specs.List.{list_all}
use Rattle.std.proofs.lemmas.List.{length-map}
use Rattle.std.proofs.lemmas.List.Quantifiers.{position-Some}
use Rattle.target_base.specs.Numbers.{class_number}
use Rattle.target_base.specs.Storage.{same_numbers}
use Rattle.target_base.specs.declared.types.Target.{Target}
use Rattle.target_base.specs.Registers.{IsClass}
use Rattle.mir_func.specs.declared.func.Operand.{Operand}
use Rattle.mir_func.specs.declared.func.Operand.TheVariants as operands
use Rattle.mir_func.specs.declared.func.Instr.{Instr}
use Rattle.mir_lines.specs.declared.raw.RawPlace.{RawPlace}
use Rattle.mir_lines.specs.declared.raw.RawPlace.TheVariants as places
use Rattle.mir_lines.specs.declared.raw.RawOperand.{RawOperand}
use Rattle.mir_lines.specs.declared.raw.RawOperand.TheVariants as raw
use Rattle.mir_lines.specs.declared.raw.RawInstr.{RawInstr}
use Rattle.mir_read.specs.declared.stop.TextKind.{TextKind}
use Rattle.mir_read.specs.declared.ranges.AnnotatedClass.TheVariants as given
use Rattle.mir_read.specs.declared.ranges.Ranges.{Ranges}
use Rattle.mir_read.specs.declared.resolve.Headers.{Headers}
use Rattle.mir_read.specs.Names.{name_lists, class_named, reg_named, index_named, mask_named, has_flag}
use Rattle.mir_read.specs.Ranges.{given_to}
use Rattle.mir_read.specs.Reading.{◌>>=◌, or_fault}
use Rattle.mir_read.specs.Resolving.{◌>>?◌, index_if, class_if, placed, differs, operand_named, operands_named, opcode_named, instr_named}
use Rattle.mir_text.proofs.Laws.Given.{GivesClass, GiveClasses, to-gives, mentioned-gives}

-- What holds of an answer, step by step.

pub bind-ok : {A B : Type 0} (r : Result A TextKind) (f : A → Result B TextKind) (P : A → Type 0) (Q : B → Type 0) → IfOk r P → ((x : A) → P x → IfOk (f x) Q) → IfOk (r >>= f) Q
bind-ok (Ok x) f P Q h g = g x h
bind-ok (Err kind) f P Q h g = tt

pub fault-ok : {A : Type 0} (kind : TextKind) (o : Option A) (P : A → Type 0) → IfSome o P → IfOk (or_fault kind o) P
fault-ok kind None P h = tt
fault-ok kind (Some x) P h = h

pub either-ok : {A E : Type 0} (b : Bool) (r s : Result A E) (P : A → Type 0) → IfOk r P → IfOk s P → IfOk (if b then r else s) P
either-ok true r s P h k = h
either-ok false r s P h k = k

pub any-some : {A : Type 0} (o : Option A) → IfSome o (λ x. Unit {0})
any-some None = tt
any-some (Some x) = tt

then-some : {A B : Type 0} (o : Option A) (f : A → Option B) (P : A → Type 0) (Q : B → Type 0) → IfSome o P → ((x : A) → P x → IfSome (f x) Q) → IfSome (o >>? f) Q
then-some None f P Q h g = tt
then-some (Some x) f P Q h g = g x h

map-some : {A B : Type 0} (o : Option A) (f : A → B) (P : A → Type 0) (Q : B → Type 0) → IfSome o P → ((x : A) → P x → Q (f x)) → IfSome (option_map f o) Q
map-some None f P Q h g = tt
map-some (Some x) f P Q h g = g x h

module _ (t : Target) where
  -- the number of a name is below the number of names
  place-class : (q : Option ℕ) (w : List ℕ) → position (same_numbers w) (map (λ c. c.name) t.classes) ≡ q → IfSome (option_map class_number q) (IsClass t)
  place-class None w e = tt
  place-class (Some k) w e =
      let h = (position-Some (same_numbers w) (map (λ c. c.name) t.classes) k [] e).0 in
      omega (arith, h, length-map t.classes (λ c. c.name))

  pub named-class : (w : List ℕ) → IfSome (class_named (name_lists t) w) (IsClass t)
  unfolding name_lists
  named-class w = place-class (position (same_numbers w) (map (λ c. c.name) t.classes)) w refl

  if-class : (w : Option (List ℕ)) → IfSome (class_if (name_lists t) w) (GivesClass t)
  if-class None = tt
  if-class (Some w) = map-some (class_named (name_lists t) w) given.One (IsClass t) (GivesClass t) (named-class w) (λ c h. h)

  module _ (headers : Headers) (keyed : Ranges) (before : GiveClasses t keyed) where
    placed-gives : (r : Ranges) (p : RawPlace) → GiveClasses t r → IfSome (placed (name_lists t) keyed r p) (λ x. GiveClasses t x.0)
    unfolding placed
    placed-gives r (places.Fixed w) h = map-some (reg_named (name_lists t) w) _ (λ x. Unit {0}) (λ x. GiveClasses t x.0) (any-some (reg_named (name_lists t) w)) (λ x u. h)
    placed-gives r (places.Virtual w index class) h =
        then-some (index_if (name_lists t) index) _ (λ x. Unit {0}) (λ x. GiveClasses t x.0) (any-some (index_if (name_lists t) index)) (λ i u.
        then-some (class_if (name_lists t) class) _ (GivesClass t) (λ x. GiveClasses t x.0) (if-class class) (λ g k.
        mentioned-gives t r w (given_to keyed w) g h (to-gives t keyed w before) k))

    operand-gives : (r : Ranges) (o : RawOperand) → GiveClasses t r → IfSome (operand_named (name_lists t) headers keyed r o) (λ x. GiveClasses t x.0)
    unfolding operand_named
    operand-gives r (raw.Reg o) h = map-some (placed (name_lists t) keyed r o.place) _ (λ x. GiveClasses t x.0) (λ x. GiveClasses t x.0) (placed-gives r o.place h) (λ x k. k)
    operand-gives r (raw.Imm n) h = h
    operand-gives r (raw.Block n name) h = named (differs headers n name)
      where
        named : (b : Bool) → IfSome (if b then None else Some (r, operands.Block n)) (λ (x : Ranges × Operand). GiveClasses t x.0)
        named true = tt
        named false = h
    operand-gives r (raw.Stack n) h = h
    operand-gives r (raw.FixedStack n) h = h
    operand-gives r (raw.Symbol text flags) h = known (list_all (has_flag (name_lists t)) flags)
      where
        known : (b : Bool) → IfSome (if b then Some (r, operands.Symbol text) else None) (λ (x : Ranges × Operand). GiveClasses t x.0)
        known true = h
        known false = tt
    operand-gives r (raw.Index w) h = map-some (index_named (name_lists t) w) _ (λ x. Unit {0}) (λ (x : Ranges × Operand). GiveClasses t x.0) (any-some (index_named (name_lists t) w)) (λ x u. h)
    operand-gives r (raw.Mask w) h = map-some (mask_named (name_lists t) w) _ (λ x. Unit {0}) (λ (x : Ranges × Operand). GiveClasses t x.0) (any-some (mask_named (name_lists t) w)) (λ x u. h)

    operands-give : (r : Ranges) (os : List RawOperand) → GiveClasses t r → IfSome (operands_named (name_lists t) headers keyed r os) (λ x. GiveClasses t x.0)
    operands-give r [] h = h
    operands-give r (o ∷ os) h =
        then-some (operand_named (name_lists t) headers keyed r o) _ (λ x. GiveClasses t x.0) (λ (x : Ranges × List Operand). GiveClasses t x.0) (operand-gives r o h) (λ p k.
        then-some (operands_named (name_lists t) headers keyed p.0 os) _ (λ x. GiveClasses t x.0) (λ (x : Ranges × List Operand). GiveClasses t x.0) (operands-give p.0 os k) (λ q l. l))

    -- an instruction gives registers only classes of the target
    pub instr-gives : (r : Ranges) (id : ℕ) (i : RawInstr) → GiveClasses t r → IfSome (instr_named (name_lists t) headers keyed r id i) (λ x. GiveClasses t x.0)
    unfolding instr_named
    instr-gives r id i h =
        then-some (opcode_named (name_lists t) i) _ (λ x. Unit {0}) (λ (x : Ranges × Instr). GiveClasses t x.0) (any-some (opcode_named (name_lists t) i)) (λ op u.
        then-some (operands_named (name_lists t) headers keyed r i.operands) _ (λ x. GiveClasses t x.0) (λ (x : Ranges × Instr). GiveClasses t x.0) (operands-give r i.operands h) (λ p k. k))
