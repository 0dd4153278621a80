-- Types of mir_text that have no names outside it: what its definitions answer is of them.
use Rattle.std.proofs.Common.{[]}
use Rattle.mir_text.specs.BodyLines.{reading_of}
use Rattle.mir_text.specs.Document.{as_body}

-- what a function answers is of this type
abbrev pub Answered : {A B : Type 0} → (A → B) → Type 0
Answered {A} {B} f = B

-- what is read of a function document whose body has begun
abbrev pub Reading : Type 0
Reading = Answered reading_of

-- what the lines so far make
abbrev pub State : Type 0
State = Answered (as_body [])
