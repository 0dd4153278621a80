-- What an allocated function keeps of its source beside what runs.
use Rattle.std.specs.Prelude.{Bool, ◌&&◌, cond, List, [], ◌∷◌, Option, Some, None, option_and_then}
use Rattle.std.specs.List.{list_all}
use Rattle.target_base.specs.declared.types.Target.{Target}
use Rattle.target_base.specs.Storage.{same_numbers}
use Rattle.mir_func.specs.Value.{Function}
use Rattle.mir_func.specs.Binding.{passes}
use Rattle.source_text.specs.Blocks.{keep_blocks}
use Rattle.source_text.specs.Frames.{Object, new_objects, are_new}
use Rattle.source_text.specs.Keys.{added}
use Rattle.source_text.specs.Slots.{slots_in}
use Rattle.source_text.specs.Stored.{block_fits}
use Rattle.source_text.specs.declared.slots.NewSlot.{NewSlot}

-- The new slots with their sizes, where the key lines of g are those of f and declare these slots besides, where the rules
-- put their lines. Without new slots they are f's.
abbrev pub new_slots : Target → Function → Function → List Object → Option (List NewSlot)
new_slots t f g [] = cond (same_numbers f.head g.head) (Some []) None
new_slots t f g (o ∷ os) = option_and_then (slots_in t (o ∷ os)) (added f.head g.head)

-- The frame objects of g are those of f and new spill slots, which the key lines declare; and all that is stored to a slot or
-- reloaded from one lies in a new slot.
abbrev pub keeps_objects : Target → Function → Function → List Object → Bool
keeps_objects t f g new = are_new f new && passes (λ slots. list_all (block_fits t slots) g.blocks) (new_slots t f g new)

abbrev pub keeps_frames : Target → Function → Function → Bool
keeps_frames t f g = passes (keeps_objects t f g) (new_objects f.frames g.frames)

-- Function g keeps what is printed of f: its name, the headers of its blocks with their successors, the flags and the tails
-- of its instructions, its key lines and its frame objects, with nothing more than the new spill slots.
unfoldable pub keeps_text : Target → Function → Function → Bool
keeps_text t f g = same_numbers f.name g.name && keep_blocks t f.blocks g.blocks && keeps_frames t f g
