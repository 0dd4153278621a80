-- What each allocator is: the policy of its run, and whether spill slots are coloured behind it.
use Rattle.std.specs.Prelude.{Bool, true, false}
use Rattle.greedy_core.specs.declared.run.Policy.{Policy}
use Rattle.greedy_core.specs.declared.run.Policy.TheVariants as policies
use Rattle.pipeline.specs.declared.passes.allocator.Allocator.{Allocator}
use Rattle.pipeline.specs.declared.passes.allocator.Allocator.TheVariants as allocators

abbrev pub policy_of : Allocator → Policy
policy_of allocators.Greedy = policies.Greedy
policy_of allocators.Colour = policies.Greedy
policy_of allocators.Cut = policies.Cut
policy_of allocators.Basic = policies.Basic

abbrev pub colours : Allocator → Bool
colours allocators.Colour = true
colours how = false
