-- A function in which a range was spilled does what it did, where the range's slot is apart from it.
use Rattle.std.proofs.Common.{◌≡◌, ◌≤◌, ◌∷◌, ◌++◌, ◌∙◌, ◌&&◌, ◌||◌, ◌+◌, not, ℕ, Bool, true, false, cond, List, Option, Some, None, append-nil, append_assoc, flat_map, length, map, refl, sym, ap, subst, arith, []}
use Rattle.std.proofs.lemmas.List.{length-map}
use Rattle.std.specs.Prelude.{nat_eq}
use Rattle.std.specs.List.{list_all, sum_by, zip}
use Rattle.target_base.specs.declared.types.ClassId.{ClassId}
use Rattle.target_base.specs.declared.types.Effect.{Effect}
use Rattle.target_base.specs.declared.types.Target.{Target}
use Rattle.target_base.specs.Numbers.{unit_number}
use Rattle.target_base.specs.Rules.{is_phi}
use Rattle.target_base.specs.Storage.{unit_width}
use Rattle.meaning.specs.Code.{Code}
use Rattle.meaning.specs.Live.{Among as Member, here as first, there as later}
use Rattle.mir_func.specs.declared.func.Instr.{Instr}
use Rattle.mir_func.specs.declared.func.Block.{Block}
use Rattle.mir_func.specs.Value.{Function}
use Rattle.mir_func.specs.Binding.{does, effect_of, is_lowered_away, is_terminator, passes, puts_together}
use Rattle.mir_meaning.specs.Codes.{first_number, given_of, is_given, item_of, refines, way}
use Rattle.mir_meaning.specs.Rules.{V1}
use Rattle.instr_effects.proofs.Members.{left-in, right-in}
use Rattle.live_laws.proofs.Effects.Blocks.{numbers-apart}
use Rattle.live_laws.proofs.Effects.Lists.{all-of}
use Rattle.lowering_laws.specs.Shapes.{IsLowered}
use Rattle.lowering_laws.proofs.BlockRules.{AllBecome, ordered}
use Rattle.lowering_laws.proofs.Lowering.{map-append}
use Rattle.spiller.specs.Reaching.{AreFacts}
use Rattle.spiller.specs.Rematerialised.{places_from, places_of}
use Rattle.spiller.specs.Setting.{Spilling}
use Rattle.spiller.specs.Spilled.{block_changes, change, changes, new_ids, numbered_change, setting_of, spilled, spilled_block, tinies_of}
use Rattle.spill_laws.specs.Laws.{AreLowered}
use Rattle.spill_laws.specs.Named.{HasFixedUndefs}
use Rattle.spill_laws.specs.Refined.{SlotApart}
use Rattle.spill_laws.specs.SpillPlaces.{IsPart, IsPlace, alone, ends}
use Rattle.spill_laws.specs.SpillRefines.{SpillRefines}
use Rattle.spill_laws.specs.Standing.{AllStand, IsSetting, PlaceStands, PlacesStand, instrs_of}
use Rattle.spill_laws.specs.TinyPlaces.{AreAt, IsBlock}
use Rattle.spill_laws.proofs.Assembled.{all_stand_refine}
use Rattle.spill_laws.proofs.Blocks.{all-carried}
use Rattle.spill_laws.proofs.EffectPlaces.{spill_places_stand}
use Rattle.spill_laws.proofs.Following.{bare-ways-of, falls-followed, item-in-order, item-inside}
use Rattle.spill_laws.proofs.InForm.{in-lowered-form, once, one-instr, spill-lowered}
use Rattle.spill_laws.proofs.Joined.{places_join}
use Rattle.spill_laws.proofs.Kept.{in-order, orderly}
use Rattle.spill_laws.proofs.Outcomes.{places-whole}
use Rattle.spill_laws.proofs.Positions.{around, behind, code-at, end_code, found-at, inside, place}
use Rattle.spill_laws.proofs.Ranges.{Has, classes-stay, has-before, has-behind, has-made}
use Rattle.spill_laws.proofs.Sites.{sites_apart}

-- the effect of an instruction whose opcode is known, and isn't lowered away
pub record IsKnown (t : Target) (i : Instr) : Type 0 where
  pub effect : Effect
  pub known : effect_of t i ≡ Some effect
  pub plain : is_phi effect ≡ false
  pub single : puts_together effect ≡ false

pub known-by : (t : Target) (i : Instr) → does (λ e. not (is_lowered_away e)) t i ≡ true → IsKnown t i
known-by t i w = go (effect_of t i) refl w
  where
    left : (a b : Bool) → not (a || b) ≡ true → a ≡ false
    left true b e = absurd (cc)
    left false b e = refl

    right : (a b : Bool) → not (a || b) ≡ true → b ≡ false
    right true b e = absurd (cc)
    right false true e = absurd (cc)
    right false false e = refl

    go : (q : Option Effect) → effect_of t i ≡ q → passes (λ e. not (is_lowered_away e)) q ≡ true → IsKnown t i
    go None e h = absurd (cc)
    go (Some x) e h = record { effect = x; known = e; plain = left (is_phi x) (puts_together x) h; single = right (is_phi x) (puts_together x) h }

pub no-phi : (t : Target) (i : Instr) → does (λ e. not (is_lowered_away e)) t i ≡ true → does is_phi t i ≡ false
no-phi t i w = let z = known-by t i w in ap (passes is_phi) z.known ∙ z.plain

module _ (s : Spilling) (low : IsLowered s.target s.func) (formed : AreLowered s.target s.func) (fixed : HasFixedUndefs s.target s.func) (apart : SlotApart s.target s.func s.range s.slot) (facts : AreFacts s.target s.func s.range s.facts) where
  abbrev t : Target
  t = s.target

  abbrev f : Function
  f = s.func

  abbrev g : Function
  g = spilled s

  plain : (b : Block) (i : Instr) → Member b f.blocks → Member i b.instrs → does is_phi t i ≡ false
  plain b i mb mi = no-phi t i (low.lowered b i mb mi)

  bare : (n m : ℕ) → (way t f n m).phis ≡ []
  bare = bare-ways-of t f plain

  bare-behind : (n m : ℕ) → (way t g n m).phis ≡ []
  bare-behind = bare-ways-of t g (λ b i mb mi. no-phi t i ((spill-lowered s low formed).0.lowered b i mb mi))

  setting : IsSetting s g
  setting = record {
    shaped = low.rules.shaped;
    lowered = λ b i mb mi. in-lowered-form s low formed b mb i mi;
    stands = λ b i mb mi.
        let w = around f.blocks b mb in
        let v = around b.instrs i mi in
        (_, code-at t f low.function plain w.front b w.back w.whole v.front i v.back v.whole);
    keeps = classes-stay s;
    classes = low.rules.classes;
    facts = facts;
  }

  one : (b : Block) → Member b f.blocks → (i : Instr) → Member i b.instrs → V1 t f i ≡ true
  one b mb i mi = (low.rules.shaped b i mb mi).operands

  -- a block

  module _ (pre : List Block) (b : Block) (after : List Block) (blocks : pre ++ b ∷ after ≡ f.blocks) where
    mb : Member b f.blocks
    mb = inside t f low.function plain pre b after blocks

    abbrev rest : Code
    rest = end_code t f low.function plain pre b after blocks

    are-at : (front is back : List Instr) → front ++ (is ++ back) ≡ b.instrs → AreAt s b is (map (item_of t f b) back ++ rest)
    are-at front [] back instrs = tt
    are-at front (i ∷ is) back instrs =
        let mi : Member i b.instrs = subst (Member i) instrs (right-in i front (i ∷ (is ++ back)) first) in
        let z = known-by t i (low.lowered b i mb mi) in
        let nine = low.successors (length pre) b (place t f low.function plain pre b after blocks) in
        let at = behind t f low.function plain pre b after blocks in
        let from = code-at t f low.function plain pre b after blocks front i (is ++ back) instrs
        ∙ ap (λ q. item_of t f b i ∷ q) (ap (λ q. q ++ rest) (map-append (item_of t f b) is back) ∙ append_assoc (map (item_of t f b) is) (map (item_of t f b) back) rest) in (
          sites_apart s i.id (item_of t f b i) (map (item_of t f b) is ++ (map (item_of t f b) back ++ rest)) apart from (item-in-order t f (length pre) b after at (one b mb) (in-order s low b mb) nine i mi z.effect z.known (plain b i mb mi) bare z.single),
          item-inside t f (length pre) b after at (one b mb) (in-order s low b mb) nine i mi z.effect z.known (plain b i mb mi) bare z.single,
          are-at (front ++ i ∷ []) is back (append_assoc front (i ∷ []) (is ++ back) ∙ instrs),
        )

    module _ (c : Block) (block : IsBlock s g b c) where
      abbrev class-in : Option ClassId × ℕ → Option ClassId
      class-in x = x.0

      -- a place
      is-place : (front is back : List Instr) (n r : ℕ) → front ++ (is ++ back) ≡ b.instrs → Member is (places_of t b) → IsPart s is → length f.classes ≤ r → Has g r (map class-in (change s n r is).tinies) → IsPlace s g b c is (map (item_of t f b) back ++ rest) n r
      is-place front is back n r instrs standing part further has = record {
        setting = setting;
        blocks = block;
        block = mb;
        place = standing;
        part = part;
        opcodes = λ i m. low.lowered b i mb (among i m);
        once = λ i j m k. one-instr b.instrs (once s low formed b mb) i j (among i m) (among j k);
        undefs = fixed;
        at = are-at front is back instrs;
        further = further;
        tinies = has;
      }
        where
          among : (i : Instr) → Member i is → Member i b.instrs
          among i m = subst (Member i) instrs (right-in i front (is ++ back) (left-in i is back m))

      places-stand : (front is : List Instr) (n r : ℕ) → front ++ is ≡ b.instrs → ((p : List Instr) → Member p (places_from t is) → Member p (places_of t b)) → ordered t is ≡ true → length f.classes ≤ r
          → Has g r (map class-in (tinies_of (changes s n r (places_from t is)))) → PlacesStand s g b c rest (places_from t is) (changes s n r (places_from t is))
      places-stand front [] n r instrs standing o further has = PlacesStand.done
      places-stand front (i ∷ is) n r instrs standing o further has = go (does is_terminator t i) refl o standing has (λ m d w. places-stand (front ++ i ∷ []) is m d (append_assoc front (i ∷ []) is ∙ instrs) w)
        where
          go : (y : Bool) → does is_terminator t i ≡ y → cond y (list_all (does is_terminator t) is) (ordered t is) ≡ true
              → ((p : List Instr) → Member p (cond y ((i ∷ is) ∷ []) ((i ∷ []) ∷ places_from t is)) → Member p (places_of t b))
              → Has g r (map class-in (tinies_of (changes s n r (cond y ((i ∷ is) ∷ []) ((i ∷ []) ∷ places_from t is)))))
              → ((m d : ℕ) → ((p : List Instr) → Member p (places_from t is) → Member p (places_of t b)) → ordered t is ≡ true → length f.classes ≤ d → Has g d (map class-in (tinies_of (changes s m d (places_from t is)))) → PlacesStand s g b c rest (places_from t is) (changes s m d (places_from t is)))
              → PlacesStand s g b c rest (cond y ((i ∷ is) ∷ []) ((i ∷ []) ∷ places_from t is)) (changes s n r (cond y ((i ∷ is) ∷ []) ((i ∷ []) ∷ places_from t is)))
          go true e q w has more =
              let all : Has g r (map class-in (change s n r (i ∷ is)).tinies) = subst (λ ts. Has g r (map class-in ts)) (append-nil (change s n r (i ∷ is)).tinies) has in
              let z = is-place front (i ∷ is) [] n r (ap (λ js. front ++ js) (append-nil (i ∷ is)) ∙ instrs) (w (i ∷ is) first) (ends (λ j m. all-of (does is_terminator t) j (i ∷ is) m (λ k. e k && q k))) further all in
              PlacesStand.more (spill_places_stand s g b c (i ∷ is) rest n r z) PlacesStand.done
          go false e q w has more =
              let y = numbered_change s n r (i ∷ []) in
              let xs = changes s (n + new_ids y) (r + length y.tinies) (places_from t is) in
              let all : Has g r (map class-in y.tinies ++ map class-in (tinies_of xs)) = subst (Has g r) (map-append class-in y.tinies (tinies_of xs)) has in
              let z = is-place front (i ∷ []) is n r instrs (w (i ∷ []) first) (alone e) further (has-before g r (map class-in y.tinies) (map class-in (tinies_of xs)) all) in
              PlacesStand.more
              (subst (λ js. PlaceStands s (map (item_of t f b) (i ∷ [])) (map (item_of t g c) (instrs_of y)) (map (item_of t f b) js ++ rest)) (sym (places-whole t is)) (spill_places_stand s g b c (i ∷ []) (map (item_of t f b) is ++ rest) n r z))
              (more (n + new_ids y) (r + length y.tinies) (λ p m. w p (later m)) q (omega (arith, further))
              (subst (λ d. Has g d (map class-in (tinies_of xs))) (ap (λ d. r + d) (length-map y.tinies class-in)) (has-behind g r (map class-in y.tinies) (map class-in (tinies_of xs)) all)))

      -- all places of the block
      block-stands : (n r : ℕ) → length f.classes ≤ r → Has g r (map class-in (tinies_of (changes s n r (places_of t b)))) → c.instrs ≡ flat_map instrs_of (changes s n r (places_of t b)) → PlaceStands s (map (item_of t f b) b.instrs) (map (item_of t g c) c.instrs) rest
      block-stands n r further has are =
          subst (λ is. PlaceStands s (map (item_of t f b) b.instrs) (map (item_of t g c) is) rest) (sym are)
          (subst (λ is. PlaceStands s (map (item_of t f b) is) (map (item_of t g c) (flat_map instrs_of (changes s n r (places_of t b)))) rest) (places-whole t b.instrs)
          (places_join s g b c rest (places_of t b) (changes s n r (places_of t b)) (places-stand [] b.instrs n r refl (λ p m. m) (in-order s low b mb) further has)))

  -- all blocks

  first-same : (bs cs : List Block) → AllBecome t bs cs → first_number cs ≡ first_number bs
  first-same [] [] a = refl
  first-same [] (c ∷ cs) a = absurd a
  first-same (b ∷ bs) [] a = absurd a
  first-same (b ∷ bs) (c ∷ cs) a = ap Some a.0.number

  abbrev behind-of : ℕ → ℕ → List Block → List Block
  behind-of n r bs = map spilled_block (zip bs (block_changes s n r bs))

  abbrev class-of-tiny : Option ClassId × ℕ → Option ClassId
  class-of-tiny x = x.0

  blocks-stand : (pre bs : List Block) (n r : ℕ) → pre ++ bs ≡ f.blocks → length f.classes ≤ r → Has g r (map class-of-tiny (flat_map tinies_of (block_changes s n r bs))) → AllBecome t bs (behind-of n r bs) → AllStand s g bs (behind-of n r bs)
  blocks-stand pre [] n r blocks further has become = AllStand.done
  blocks-stand pre (b ∷ bs) n r blocks further has become =
      let xs = changes s n r (places_of t b) in
      let m = n + sum_by new_ids xs in
      let d = r + length (tinies_of xs) in
      let more = flat_map tinies_of (block_changes s m d bs) in
      let c = spilled_block (b, xs) in
      let block : IsBlock s g b c = record { number = refl; successors = refl; bare = bare; bare_behind = bare-behind } in
      let all : Has g r (map class-of-tiny (tinies_of xs) ++ map class-of-tiny more) = subst (Has g r) (map-append class-of-tiny (tinies_of xs) more) has in
      let nine = low.successors (length pre) b (place t f low.function plain pre b bs blocks) in
      let at = behind t f low.function plain pre b bs blocks in
      let member = inside t f low.function plain pre b bs blocks in
      AllStand.more refl refl
      (λ k. cond (become.0.instrs.falls k && not (t.options.open_blocks && nat_eq (length b.successors) 0 && become.0.instrs.opens k)) (first-same bs (behind-of m d bs) become.1 k) None)
      (λ x e. falls-followed t f (length pre) b bs at (one b member) (in-order s low b member) nine x e)
      (found-at t f low.function plain pre b bs blocks (numbers-apart f low.rules.blocks))
      (block-stands pre b bs blocks c block n r further (has-before g r (map class-of-tiny (tinies_of xs)) (map class-of-tiny more) all) refl)
      (blocks-stand (pre ++ b ∷ []) bs m d (append_assoc pre (b ∷ []) bs ∙ blocks) (omega (arith, further))
      (subst (λ y. Has g y (map class-of-tiny more)) (ap (λ y. r + y) (length-map (tinies_of xs) class-of-tiny)) (has-behind g r (map class-of-tiny (tinies_of xs)) (map class-of-tiny more) all)) become.1)

  become-all : AllBecome t f.blocks g.blocks
  become-all = all-carried s (λ b i mb mi. (low.rules.shaped b i mb mi).operands) (in-order s low) (orderly s low)

  all-stand : AllStand s g f.blocks g.blocks
  unfolding spilled
  all-stand = let low : length f.classes ≤ length f.classes = omega arith in blocks-stand [] f.blocks f.next_id (length f.classes) refl low (has-made s) become-all

  same-given : (u n r : ℕ) (bs : List Block) → is_given t (map spilled_block (zip bs (block_changes s n r bs))) u ≡ is_given t bs u
  same-given u n r [] = refl
  same-given u n r (b ∷ bs) = refl

  given : (u : ℕ) → given_of t g u ≡ given_of t f u
  unfolding spilled
  given u = ap (λ y. cond y (Some (unit_width t.units (unit_number u))) None) (same-given u f.next_id (length f.classes) f.blocks)

  pub spill-refines : refines t f g
  spill-refines = all_stand_refine s g bare bare-behind given all-stand

pub spill_refines : SpillRefines
spill_refines t f g slots new v made low formed fixed apart z = subst (refines t f) (sym z.func) (spill-refines (setting_of t f slots v z.facts) low formed fixed apart z.are_facts)
