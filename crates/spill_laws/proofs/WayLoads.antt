-- What gives a tiny the value that is read: a reload, or a repeated constant.
use Rattle.std.proofs.Common.{◌≡◌, ◌∷◌, ◌∙◌, inl, inr, ℕ, Bool, List, Option, Some, None, length, map, refl, sym, ap, subst, []}
use Rattle.std.proofs.lemmas.List.{length-map}
use Rattle.target_base.specs.declared.types.ClassId.{ClassId}
use Rattle.target_base.specs.declared.types.Effect.TheVariants as effects
use Rattle.target_base.specs.declared.types.Target.{Target}
use Rattle.target_base.specs.Registers.{IsClass}
use Rattle.meaning.specs.Code.{Silent}
use Rattle.meaning.specs.Live.{Among as Member}
use Rattle.meaning.specs.declared.types.Source.{Source}
use Rattle.meaning.specs.declared.types.Source.TheVariants.{Bits, FromLane, Undef}
use Rattle.mir_func.specs.declared.func.Loc.TheVariants.{Virtual}
use Rattle.mir_func.specs.declared.func.Instr.{Instr}
use Rattle.mir_func.specs.declared.func.Block.{Block}
use Rattle.mir_func.specs.Value.{Function}
use Rattle.mir_func.specs.Binding.{effect_of, is_early_clobber, roles_of}
use Rattle.mir_meaning.specs.Codes.{item_of}
use Rattle.mir_meaning.specs.Items.{moved}
use Rattle.mir_meaning.specs.Places.{Variable}
use Rattle.mir_meaning.specs.Registers.{numbers, range_widths}
use Rattle.instr_effects.proofs.Members.{map-of}
use Rattle.lowering_laws.proofs.Traced.{lanes_by}
use Rattle.spiller.specs.Rematerialised.{all_readings, if_whole, repeated, repeated_for, way_reading}
use Rattle.spiller.specs.Rematerialised as rematerialised
use Rattle.spiller.specs.Setting.{Spilling, in_own_slot, own_lanes, plain_definition, reload}
use Rattle.spill_laws.specs.Standing.{IsConstant, IsSetting}
use Rattle.spill_laws.specs.Seats.{GivesLoad, IsPlain, Load, WaysLoad, load_writes, source_at}
use Rattle.spill_laws.proofs.Reached.{reading-repeated, reading-stored}
use Rattle.spill_laws.proofs.RepeatPlaces.{gives, gives-by-number, gives-constant, is-repeated, repeating-item, wholly}
use Rattle.spill_laws.proofs.SlotPlaces.{home, width}
use Rattle.spill_laws.proofs.SpillItems.{reload-effect, reload-item}

module _ (s : Spilling) (g : Function) (c : Block) (is : List Instr) (n : ℕ) (v : Variable) (k : ClassId) (z : IsSetting s g) (known : Member (way_reading s is v) (all_readings s)) (class : v.class ≡ Some k) (lawful : IsClass s.target k)
    (wide : range_widths s.target g n ≡ map (width s) (own_lanes s v.index)) where
  abbrev t : Target
  t = s.target

  abbrev ks : List ℕ
  ks = own_lanes s v.index

  -- the tiny has as many lanes as there are sources
  many : (found : ℕ → Source) → length (range_widths t g n) ≡ length (map found ks)
  many found = ap length wide ∙ (length-map ks (width s) ∙ sym (length-map ks found))

  as-load : (early : Bool) (found : ℕ → Source) → Load
  as-load early found = record { tiny = n; early = early; sources = map found (own_lanes s v.index) }

  lanes-loaded : (early : Bool) (found : ℕ → Source) → moved early (lanes_by n (numbers 0 (length (range_widths t g n)))) (map found ks) ≡ load_writes (as-load early found)
  unfolding as-load
  lanes-loaded early found = ap (λ m. moved early (lanes_by n (numbers 0 m)) (map found ks)) (many found)

  change : (q : Option Instr) → Instr
  change q = elim q [ None ↦ reload s.target v.class (plain_definition (Virtual n) None) (in_own_slot s v.index) | Some d ↦ repeated d (plain_definition (Virtual n) None) ]

  -- a reload
  reloaded-load : repeated_for s (way_reading s is v) ≡ None → GivesLoad s g c is (n, v)
  unfolding change as-load
  reloaded-load none =
      let y = reload t v.class (plain_definition (Virtual n) None) (in_own_slot s v.index) in
      let early = is_early_clobber (roles_of t y) in
      let effect : effect_of t y ≡ Some effects.Reload = ap (λ q. effect_of t (reload t q (plain_definition (Virtual n) None) (in_own_slot s v.index))) class ∙ reload-effect t k lawful (plain_definition (Virtual n) None) (in_own_slot s v.index) in
      record {
        load = as-load early (home s);
        tiny = refl;
        item = ap (λ q. item_of t g c (change q)) none ∙ (reload-item s g c y (plain_definition (Virtual n) None) v.index refl wide effect refl ∙ ap (λ ws. Silent [] ws) (lanes-loaded early (home s)));
        found = home s;
        sources = refl;
        plain = λ q m. let w = map-of (home s) q ks m in subst IsPlain (sym w.2) tt;
        stands = λ i x q from by j m reads. inl (reading-stored s z.facts i x q from j reads (way_reading s is v) by m known none, refl);
      }

  constant-plain : (q : Source) → IsConstant q → IsPlain q
  constant-plain (Bits b low w) h = tt
  constant-plain Undef h = absurd h
  constant-plain (FromLane a) h = absurd h

  -- a repeated constant
  repeated-load : (d : Instr) → repeated_for s (way_reading s is v) ≡ Some d → GivesLoad s g c is (n, v)
  unfolding change as-load
  repeated-load d some =
      let r = way_reading s is v in
      let early = is_early_clobber (roles_of t d) in
      let index : v.index ≡ None = wholly s g z r d some v.index (rematerialised.Within v.class) refl in
      let found = source_at (own_lanes s None) (gives s g z r d some) in
      let wide' : range_widths t g n ≡ map (width s) (own_lanes s None) = wide ∙ ap (λ y. map (width s) (own_lanes s y)) index in
      record {
        load = as-load early found;
        tiny = refl;
        item =
            ap (λ q. item_of t g c (change q)) some
            ∙ (repeating-item s g z r d some c (Virtual n) None wide'
            ∙ (ap (λ y. Silent [] (moved early (lanes_by n (numbers 0 (length (range_widths t g n)))) (map found (own_lanes s y)))) (sym index) ∙ ap (λ ws. Silent [] ws) (lanes-loaded early found)));
        found = found;
        sources = refl;
        plain = λ q m.
            let a : Member q (map found (own_lanes s None)) = subst (λ y. Member q (map found (own_lanes s y))) index m in
            constant-plain q (gives-constant s g z r d some q (subst (Member q) (gives-by-number s g z r d some) a));
        stands = λ i x q from by j m reads. inr (is-repeated s g z r d some j (subst (λ y. Member j (own_lanes s y)) index m) (x ∷ q) (λ u brought. reading-repeated s z.facts i x q from j reads r by m d some u brought));
      }

  pub way-load : GivesLoad s g c is (n, v)
  way-load = go (repeated_for s (way_reading s is v)) refl
    where
      go : (q : Option Instr) → repeated_for s (way_reading s is v) ≡ q → GivesLoad s g c is (n, v)
      go None e = reloaded-load e
      go (Some d) e = repeated-load d e

pub ways_load : WaysLoad
ways_load s g c is (n, v) k z known class lawful wide = way-load s g c is n v k z known class lawful wide
