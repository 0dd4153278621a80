-- Each place of a function with a range spilled keeps what it has to.
use Rattle.std.proofs.Common.{◌≡◌, ◌≤◌, ◌∷◌, ◌++◌, ◌∙◌, ◌&&◌, ℕ, Bool, true, false, cond, List, Option, Some, None, length, map, refl, sym, ap, subst, append_assoc, []}
use Rattle.std.specs.List.{list_all}
use Rattle.target_base.specs.declared.types.Effect.{Effect}
use Rattle.target_base.specs.declared.types.Target.{Target}
use Rattle.target_base.specs.Rules.{is_phi}
use Rattle.meaning.specs.Code.{Code}
use Rattle.meaning.specs.Live.{Among as Member, here as first, there as later}
use Rattle.meaning.specs.declared.types.Lane.TheVariants.{SlotLane}
use Rattle.mir_func.specs.declared.func.Instr.{Instr}
use Rattle.mir_func.specs.declared.func.Block.{Block}
use Rattle.mir_func.specs.Value.{Function}
use Rattle.mir_func.specs.Binding.{does, effect_of, is_terminator, passes}
use Rattle.mir_meaning.specs.Codes.{block_end, blocks_code, item_of, way}
use Rattle.mir_meaning.specs.Points.{point_item, points_of}
use Rattle.mir_meaning.specs.Rules.{V1}
use Rattle.instr_effects.proofs.Members.{left-in, member-elim, member-none, right-in}
use Rattle.live_laws.proofs.Effects.Lists.{all-of}
use Rattle.lowering_laws.specs.Form.{is_lowered}
use Rattle.lowering_laws.specs.Shapes.{IsLowered}
use Rattle.lowering_laws.proofs.BlockRules.{ordered}
use Rattle.split_laws.proofs.Splitting.{as-item, map-append}
use Rattle.spiller.specs.Reaching.{AreFacts}
use Rattle.spiller.specs.Rematerialised.{places_from, places_of}
use Rattle.spiller.specs.Setting.{Spilling}
use Rattle.spiller.specs.Spilled.{change, place_change, setting_of, spilled}
use Rattle.spill_laws.specs.Laws.{AreLowered, is_placed}
use Rattle.spill_laws.specs.Named.{HasFixedUndefs}
use Rattle.spill_laws.specs.Refined.{SlotApart}
use Rattle.spill_laws.specs.SpillPlaces.{IsPart, IsPlace, alone, ends}
use Rattle.spill_laws.specs.Standing.{IsSetting, code_from}
use Rattle.spill_laws.specs.TinyPlaces.{AreAt, IsBlock}
use Rattle.spill_laws.proofs.Following.{bare-ways-of, item-in-order, item-inside}
use Rattle.spill_laws.proofs.InForm.{in-lowered-form, once, one-instr}
use Rattle.spill_laws.proofs.Kept.{in-order}
use Rattle.spill_laws.proofs.Outcomes.{ends-placed}
use Rattle.spill_laws.proofs.Positions.{around, behind, code-at, inside, place}
use Rattle.spill_laws.proofs.Ranges.{Has, classes-stay}
use Rattle.spill_laws.proofs.Refining.{known-by, no-phi}
use Rattle.spill_laws.proofs.Sites.{sites_apart}
use Rattle.clear_laws.proofs.EffectsKept.{effect-kept}
use Rattle.clear_laws.proofs.EndsKept.{terminators-kept}
use Rattle.clear_laws.proofs.LiveWidths.{live-wide}
use Rattle.clear_laws.proofs.Places.{code-behind, code-here}
use Rattle.clear_laws.proofs.PlacesKept.{PlaceKept}
use Rattle.clear_laws.proofs.PointsWide.{behind-wide, points-wide}
use Rattle.clear_laws.proofs.SilentForms.{LiveHere}
use Rattle.clear_laws.proofs.SpillPoints.{IsKept, PlacesAreKept, is-stored, is-wide}
use Rattle.clear_laws.proofs.TinyItems.{numbered-by, point-items}

placed-by : (q : Option Effect) → passes is_terminator q ≡ true → passes is_placed q ≡ true
placed-by None h = h
placed-by (Some e) h = ends-placed e h

-- a place is one instruction that is no terminator, or terminators
part-of : (s : Spilling) (js : List Instr) → ordered s.target js ≡ true → (is : List Instr) → Member is (places_from s.target js) → IsPart s is
part-of s [] o is m = absurd (member-none is m)
part-of s (i ∷ js) o is m = go (does is_terminator s.target i) refl o m (λ q k. part-of s js q is k)
  where
    go : (y : Bool) → does is_terminator s.target i ≡ y → cond y (list_all (does is_terminator s.target) js) (ordered s.target js) ≡ true → Member is (cond y ((i ∷ js) ∷ []) ((i ∷ []) ∷ places_from s.target js))
        → (ordered s.target js ≡ true → Member is (places_from s.target js) → IsPart s is) → IsPart s is
    go true e q k more = member-elim is (i ∷ js) [] (λ x. subst (IsPart s) (sym x) (ends (λ j n. all-of (does is_terminator s.target) j (i ∷ js) n (λ y. e y && q y)))) (λ x. absurd (member-none is x)) k
    go false e q k more = member-elim is (i ∷ []) (places_from s.target js) (λ x. subst (IsPart s) (sym x) (alone e)) (more q) k

module _ (s : Spilling) (low : IsLowered s.target s.func) (formed : AreLowered s.target s.func) (fixed : HasFixedUndefs s.target s.func) (apart : SlotApart s.target s.func s.range s.slot) (facts : AreFacts s.target s.func s.range s.facts) (low-spilled : IsLowered s.target (spilled s)) where
  abbrev t : Target
  t = s.target

  abbrev f : Function
  f = s.func

  abbrev g : Function
  g = spilled s

  plain : (b : Block) (i : Instr) → Member b s.func.blocks → Member i b.instrs → does is_phi s.target i ≡ false
  plain b i mb mi = no-phi t i (low.lowered b i mb mi)

  bare : (n m : ℕ) → (way s.target s.func n m).phis ≡ []
  bare = bare-ways-of t f plain

  bare-behind : (n m : ℕ) → (way s.target (spilled s) n m).phis ≡ []
  bare-behind = bare-ways-of t g (λ b i mb mi. no-phi t i (low-spilled.lowered b i mb mi))

  in-form : (b : Block) (i : Instr) → Member b s.func.blocks → Member i b.instrs → is_lowered s.target i ≡ true
  in-form b i mb mi = in-lowered-form s low formed b mb i mi

  setting : IsSetting s (spilled s)
  setting = record {
    shaped = low.rules.shaped;
    lowered = in-form;
    stands = λ b i mb mi.
        let w = around f.blocks b mb in
        let v = around b.instrs i mi in
        (_, code-at t f low.function plain w.front b w.back w.whole v.front i v.back v.whole);
    keeps = classes-stay s;
    classes = low.rules.classes;
    facts = facts;
  }

  one : (b : Block) → Member b s.func.blocks → (i : Instr) → Member i b.instrs → V1 s.target s.func i ≡ true
  one b mb i mi = (low.rules.shaped b i mb mi).operands

  module _ (pre : List Block) (b : Block) (after : List Block) (blocks : pre ++ b ∷ after ≡ s.func.blocks) where
    mb : Member b s.func.blocks
    mb = inside t f low.function plain pre b after blocks

    are-at : (front is back : List Instr) → front ++ (is ++ back) ≡ b.instrs → AreAt s b is (code-behind s.target s.func b after back)
    are-at front [] back instrs = tt
    are-at front (i ∷ is) back instrs =
        let at = behind t f low.function plain pre b after blocks in
        let nine = low.successors (length pre) b (place t f low.function plain pre b after blocks) in
        let z = known-by t i (low.lowered b i mb mi) in (
          sites_apart s i.id (item_of t f b i) (map (item_of t f b) is ++ code-behind t f b after back) apart from (item-in-order t f (length pre) b after at (one b mb) (in-order s low b mb) nine i mi z.effect z.known (plain b i mb mi) bare z.single),
          item-inside t f (length pre) b after at (one b mb) (in-order s low b mb) nine i mi z.effect z.known (plain b i mb mi) bare z.single,
          are-at (front ++ i ∷ []) is back (append_assoc front (i ∷ []) (is ++ back) ∙ instrs),
        )
      where
        mi : Member i b.instrs
        mi = subst (Member i) instrs (right-in i front (i ∷ (is ++ back)) first)

        others : (j : Instr) → Member j is → does is_phi t j ≡ false
        others j m = plain b j mb (subst (Member j) instrs (right-in j front (i ∷ (is ++ back)) (later (left-in j is back m))))

        rest-is : code-behind t f b after (is ++ back) ≡ map (item_of t f b) is ++ code-behind t f b after back
        rest-is =
            let end = block_end t f b after ∷ blocks_code (point_item t f) t f after in
            ap (λ u. u ++ end) (map-append (point_item t f b) is back)
            ∙ (append_assoc (map (point_item t f b) is) (map (point_item t f b) back) end
            ∙ ap (λ u. u ++ code-behind t f b after back) (point-items t f b is others))

        from : code_from s i.id ≡ item_of t f b i ∷ (map (item_of t f b) is ++ code-behind t f b after back)
        from = code-here t f low.function pre b after blocks front i (is ++ back) instrs ∙ (λ k. as-item t f b i (plain b i mb mi) k ∷ rest-is k)

    -- a place
    module _ (front is rest : List Instr) (instrs : front ++ (is ++ rest) ≡ b.instrs) (standing : Member is (places_of s.target b)) (n c : ℕ) (further : length s.func.classes ≤ c) (has : Has (spilled s) c (map (λ x. x.0) (change s n c is).tinies))
        (d : Block) (number : d.number ≡ b.number) (successors : d.successors ≡ b.successors) where
      abbrev p : Code
      p = code-behind s.target s.func b after rest

      among : (i : Instr) → Member i is → Member i b.instrs
      among i m = subst (Member i) instrs (right-in i front (is ++ rest) (left-in i is rest m))

      block : IsBlock s (spilled s) b d
      block = record { number = number; successors = successors; bare = bare; bare_behind = bare-behind }

      part : IsPart s is
      part = part-of s b.instrs (in-order s low b mb) is standing

      is-once : (i j : Instr) → Member i is → Member j is → i.id ≡ j.id → i ≡ j
      is-once i j m k = one-instr b.instrs (once s low formed b mb) i j (among i m) (among j k)

      is-place : IsPlace s (spilled s) b d is (code-behind s.target s.func b after rest) n c
      is-place = record {
        setting = setting;
        blocks = block;
        block = mb;
        place = standing;
        part = part;
        opcodes = λ i m. low.lowered b i mb (among i m);
        once = is-once;
        undefs = fixed;
        at = are-at front is rest instrs;
        further = further;
        tinies = has;
      }

      -- lanes of slots that are live behind it are as wide as stores write them
      is-live-wide : (m q u : ℕ) → LiveHere s (code-behind s.target s.func b after rest) (SlotLane m q u) → is-wide s u
      is-live-wide m q u live =
          live-wide t (points_of t f) (points-wide t f low in-form) live
          (behind-wide t f low in-form b after mb (λ x k. subst (Member x) blocks (right-in x pre (b ∷ after) (later k))) rest (λ i k. subst (Member i) instrs (right-in i front (is ++ rest) (right-in i is rest k)))) m q u refl

      -- terminators
      all-end : ((i : Instr) → Member i is → does is_terminator s.target i ≡ true) → Has (spilled s) c (map (λ x. x.0) (place_change s c is).tinies)
          → PlaceKept s.target s.func (spilled s) s.range s.slot (is-wide s) (is-stored s) b d is (numbered-by n (place_change s c is)) (code-behind s.target s.func b after rest)
      all-end e has = terminators-kept s b d is p c
          (record {
            setting = setting;
            blocks = block;
            block = mb;
            place = standing;
            tinies = record {
              keeps = setting.keeps;
              classes = setting.classes;
              further = further;
              shaped = λ j m. low.rules.shaped b j mb (among j m);
              placed = λ j m. placed-by (effect_of t j) (e j m);
              lowered = λ j m. in-form b j mb (among j m);
              once = is-once;
              tinies = has;
            };
            undefs = fixed;
            at = are-at front is rest instrs;
          }) e n

    place-kept : (front is rest : List Instr) → front ++ (is ++ rest) ≡ b.instrs → Member is (places_of s.target b) → (n c : ℕ) → length s.func.classes ≤ c → Has (spilled s) c (map (λ x. x.0) (change s n c is).tinies)
        → (d : Block) → d.number ≡ b.number → d.successors ≡ b.successors → PlaceKept s.target s.func (spilled s) s.range s.slot (is-wide s) (is-stored s) b d is (numbered-by n (change s n c is)) (code-behind s.target s.func b after rest)
    place-kept front [] rest e m n c further has d number successors = all-end front [] rest e m n c further has d number successors (λ i k. absurd (member-none i k)) has
    place-kept front (i ∷ []) rest e m n c further has d number successors =
        effect-kept s b d i (code-behind t f b after rest) n c (is-place front (i ∷ []) rest e m n c further has d number successors) (is-live-wide front (i ∷ []) rest e m n c further has d number successors)
    place-kept front (i ∷ j ∷ is) rest e m n c further has d number successors =
        all-end front (i ∷ j ∷ is) rest e m n c further has d number successors (more (part front (i ∷ j ∷ is) rest e m n c further has d number successors) refl) has
      where
        more : {js : List Instr} → IsPart s js → js ≡ i ∷ j ∷ is → (k : Instr) → Member k (i ∷ j ∷ is) → does is_terminator s.target k ≡ true
        more (alone {i = x} e) same k m = absurd (cc)
        more (ends e) same k m = e k (subst (Member k) (sym same) m)

  pub each-kept : IsKept s
  each-kept pre b after blocks front is rest e m n c above further has d number successors = place-kept pre b after blocks front is rest e m n c further has d number successors

pub places_are_kept : PlacesAreKept
places_are_kept t f slots v facts low formed fixed apart are-facts low-spilled = each-kept (setting_of t f slots v facts) low formed fixed apart are-facts low-spilled
