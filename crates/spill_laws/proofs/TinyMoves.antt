-- Stores and reloads of tinies, and readings for which nothing serves.
use Rattle.std.proofs.Common.{◌≡◌, ◌∷◌, ◌∙◌, List, Option, Some, None, length, map, refl, sym, ap, []}
use Rattle.std.proofs.lemmas.List.{length-map}
use Rattle.target_base.specs.declared.types.IndexId.{IndexId}
use Rattle.meaning.specs.Code.{Silent}
use Rattle.meaning.specs.Live.{here as first}
use Rattle.meaning.specs.declared.types.Source.TheVariants.{FromLane}
use Rattle.mir_func.specs.declared.func.Loc.TheVariants.{Virtual}
use Rattle.mir_func.specs.declared.func.Instr.{Instr}
use Rattle.mir_func.specs.Binding.{is_early_clobber, roles_of}
use Rattle.mir_meaning.specs.Items.{moved}
use Rattle.mir_meaning.specs.Registers.{numbers}
use Rattle.lowering_laws.proofs.Traced.{lanes_by}
use Rattle.spiller.specs.Rematerialised.{Never, if_serves, reaching, reading_of, repeated_for}
use Rattle.spiller.specs.Setting.{Spilling, in_own_slot, own_lanes, plain_definition, plain_use, reload, store}
use Rattle.spill_laws.specs.Seats.{TinyMoves, UnservedStored}
use Rattle.spill_laws.proofs.Reached.{reading-stored}
use Rattle.spill_laws.proofs.SlotPlaces.{home, width}
use Rattle.spill_laws.proofs.SlotWrites.{store_writes}
use Rattle.spill_laws.proofs.SpillItems.{reload-effect, reload-item, store-effect, store-item}

pub tiny_moves : TinyMoves
tiny_moves s g c n k x lawful wide = (
  store-item s g c (store s.target (Some k) (plain_use (Virtual n) None) (in_own_slot s x)) (plain_use (Virtual n) None) x refl wide (store-effect s.target k lawful (plain_use (Virtual n) None) (in_own_slot s x))
      ∙ ap (λ m. Silent [] (store_writes s.slot (width s) s.target (own_lanes s x) (map FromLane (lanes_by n (numbers 0 m))))) (ap length wide ∙ length-map (own_lanes s x) (width s)),
  (
    is_early_clobber (roles_of s.target (reload s.target (Some k) (plain_definition (Virtual n) None) (in_own_slot s x))),
    reload-item s g c (reload s.target (Some k) (plain_definition (Virtual n) None) (in_own_slot s x)) (plain_definition (Virtual n) None) x refl wide (reload-effect s.target k lawful (plain_definition (Virtual n) None) (in_own_slot s x)) refl
        ∙ ap (λ m. Silent [] (moved (is_early_clobber (roles_of s.target (reload s.target (Some k) (plain_definition (Virtual n) None) (in_own_slot s x)))) (lanes_by n (numbers 0 m)) (map (home s) (own_lanes s x)))) (ap length wide ∙ (length-map (own_lanes s x) (width s) ∙ sym (length-map (own_lanes s x) (home s)))),
  ),
)

-- nothing is repeated where nothing serves
never : (s : Spilling) (i : Instr) (x : Option IndexId) → repeated_for s (reading_of s (i ∷ []) x Never) ≡ None
never s i x = go (reaching s (reading_of s (i ∷ []) x Never))
  where
    go : (es : List Instr) → if_serves s.target Never es ≡ None
    go [] = refl
    go (e ∷ []) = refl
    go (e ∷ u ∷ es) = refl

pub unserved_stored : UnservedStored
unserved_stored s g i x y q j z from known m reads = reading-stored s z.facts i y q from j reads (reading_of s (i ∷ []) x Never) first m known (never s i x)
