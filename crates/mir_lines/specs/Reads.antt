-- What a function answers that reads a text, unless memory runs out.
use Rattle.std.specs.Prelude.{◌≡◌, ℕ, List, ◌∷◌, ◌++◌, Option, Some, None, Result, Ok, Err, option_and_then}
use Rattle.std.specs.Borrow.{Bor}
use Rattle.mir_lines.specs.declared.stop.LineStop.{LineStop}
use Rattle.mir_lines.specs.declared.stop.LineStop.TheVariants as stops

infixl 10 ◌>>=◌
abbrev pub ◌>>=◌ : {A B : Type 0} → Option A → (A → Option B) → Option B
o >>= f = option_and_then f o

-- one more element before what else is read
abbrev pub before : {X Y : Type 0} → X → Option (List X × Y) → Option (List X × Y)
before x None = None
before x (Some p) = Some (x ∷ p.0, p.1)

-- what is read behind the elements that are there
abbrev pub onto : {X Y : Type 0} → List X → Option (List X × Y) → Option (List X × Y)
onto made None = None
onto made (Some p) = Some (made ++ p.0, p.1)

-- it fails exactly where the text spells nothing
abbrev pub Fails : {Y : Type 0} → LineStop → Option Y → Type 0
Fails stops.Token spelled = spelled ≡ None
Fails (stops.Memory e) spelled = Unit {0}

-- it answers what the text spells
abbrev pub Reads : {X Y : Type 0} → (X → Y) → Result X LineStop → Option Y → Type 0
Reads view (Ok x) spelled = spelled ≡ Some (view x)
Reads view (Err e) spelled = Fails e spelled

-- what was read, itself
abbrev pub it : {X : Type 0} → X → X
it x = x

-- what was read, and the rest of the text
abbrev pub and_rest : {X : Type 0} → X × Bor (List ℕ) → X × List ℕ
and_rest p = (p.0, p.1.now)

-- the part that was read, and the rest of the text
abbrev pub part_and_rest : Bor (List ℕ) × Bor (List ℕ) → List ℕ × List ℕ
part_and_rest p = (p.0.now, p.1.now)

abbrev pub now_of : Bor (List ℕ) → List ℕ
now_of text = text.now
