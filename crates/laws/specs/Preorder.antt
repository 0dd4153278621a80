-- Refinement is a preorder.
use Rattle.meaning.specs.Code.{Function}
use Rattle.meaning.specs.Refines.{Refines}

abbrev pub RefinesItself : Type 0
RefinesItself = (f : Function) → Refines f f

abbrev pub RefinementComposes : Type 0
RefinementComposes = (f g h : Function) → Refines f g → Refines g h → Refines f h
