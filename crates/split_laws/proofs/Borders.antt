-- A range that is live at the start of a block is live at the end of each that leads to it, and what a view tells of both.
use Rattle.std.proofs.Common.{◌≡◌, ◌⊎◌, inl, inr, ℕ, Bool, true, false, cond, not, ◌&&◌, ◌||◌, List, [], ◌∷◌, ◌++◌, Option, Some, None, map, flat_map, refl, sym, ap, ◌∙◌, subst, eq-eqb}
use Rattle.std.specs.Prelude.{find, nat_eq, option_map}
use Rattle.std.specs.List.{list_all, list_any}
use Rattle.target_base.specs.declared.types.Effect.{Effect}
use Rattle.target_base.specs.declared.types.Reg.{Reg}
use Rattle.target_base.specs.declared.types.Target.{Target}
use Rattle.target_base.specs.Roles.{is_silent}
use Rattle.target_base.specs.Rules.{is_phi}
use Rattle.meaning.specs.Code.{Code, Counted, Edge, Item, Silent, found}
use Rattle.meaning.specs.Lanes.{filled}
use Rattle.meaning.specs.Live.{Among as Member, here as first, there as later, Live, LiveAfter, OccupiedAfter, after_next, in_order, leap}
use Rattle.meaning.specs.declared.types.Lane.{Lane}
use Rattle.meaning.specs.declared.types.Lane.TheVariants.{VirtualLane}
use Rattle.mir_func.specs.declared.func.Edge.{Edge as Successor}
use Rattle.mir_func.specs.declared.func.Instr.{Instr}
use Rattle.mir_func.specs.declared.func.Block.{Block}
use Rattle.mir_func.specs.Value.{Function}
use Rattle.mir_func.specs.Binding.{does, effect_of, is_early_clobber, is_terminator, roles_of}
use Rattle.mir_meaning.specs.Registers.{is_reserved}
use Rattle.mir_meaning.specs.Items.{counted_writes, defined_undef, rest_of, silent_reads, silent_writes, values}
use Rattle.mir_meaning.specs.Codes.{block_end, blocks_code, effect_item, item_of, target_of, way, ways_out}
use Rattle.mir_meaning.specs.Points.{AtFirst, Entry, Exit, LiveAt, OccupiedAt, Point, Start, all_points, block_points, from_instr, has_no_phis, point_item, points_of}
use Rattle.mir_meaning.specs.Rules.{block_numbers}
use Rattle.instr_effects.proofs.Members.{flat-in, map-in, member-elim, member-none}
use Rattle.live_laws.proofs.Effects.Blocks.{numbers-apart}
use Rattle.live_laws.proofs.Effects.Lists.{all-of, any-in}
use Rattle.live_laws.proofs.Effects.Moved.{Apart}
use Rattle.lowering_laws.specs.Shapes.{IsLowered}
use Rattle.split_kit.specs.Split.{RangeLive, last_point}
use Rattle.split_choose.specs.Offers.{Border, In, OneBundle, Out, Shows, View, back, block_of, border_clear, borders, edge, end_point, is_clear, is_in, itself, live_at, onward}
use Rattle.split_laws.proofs.Laid.{found-at}
use Rattle.split_laws.proofs.Marked.{differ}
use Rattle.split_laws.proofs.Points.{EndsWith, code-at, end-of, rest-at}
use Rattle.split_laws.proofs.Splitting.{all-without-phis, not-phi, suits, way-bare}

-- a list by what stands before one of it
pub between : {X : Type 0} (x : X) (xs : List X) → Member x xs → (pre : List X) × (after : List X) × (pre ++ x ∷ after ≡ xs)
between x [] m = absurd (member-none x m)
between {X} x (y ∷ xs) m = member-elim x y xs (λ e. ([], xs, ap (λ z. z ∷ xs) e)) (λ k. let z = between x xs k in (y ∷ z.0, z.1, ap (λ zs. y ∷ zs) z.2)) m

find-own : (bs : List Block) → Apart (block_numbers bs) → (b : Block) → Member b bs → find (λ (c : Block). nat_eq c.number b.number) bs ≡ Some b
find-own [] a b m = absurd (member-none b m)
find-own (c ∷ bs) a b m =
    member-elim b c bs
    (λ e. subst (λ (d : Block). find (λ (x : Block). nat_eq x.number d.number) (c ∷ bs) ≡ Some d) (sym e) (ap (λ q. cond q (Some c) (find (λ (x : Block). nat_eq x.number c.number) bs)) (eq-eqb c.number c.number refl)))
    (λ k. ap (λ q. cond q (Some c) (find (λ (x : Block). nat_eq x.number b.number) bs)) (differ c.number b.number (λ q. a.0 (subst (λ n. Member n (block_numbers bs)) (sym q) (map-in (λ (d : Block). d.number) b bs k)))) ∙ find-own bs a.1 b k) m

last-in : (p : Point) (is : List Instr) → Member (last_point p is) (p ∷ flat_map (λ (i : Instr). Entry i.id ∷ Exit i.id ∷ []) is)
last-in p [] = first
last-in p (i ∷ is) = later (later (last-in (Exit i.id) is))

same-truth : (a b : Bool) → (a ≡ true → b ≡ true) → (b ≡ true → a ≡ true) → a ≡ b
same-truth true b f g = sym (f refl)
same-truth false true f g = g refl
same-truth false false f g = refl

module _ (t : Target) (f : Function) (low : IsLowered t f) (v : ℕ) where
  none : has_no_phis t f.blocks ≡ true
  none = all-without-phis t f.blocks (λ b i mb mi. (not-phi t i ((suits t f low).lowered b i mb mi)).0)

  pub own-numbers : Apart (block_numbers f.blocks)
  own-numbers = numbers-apart f (λ k b e. low.rules.blocks k b e)

  goes-on : (b : Block) (i : Instr) → in_order (point_item t f b i) ≡ true
  unfolding point_item item_of
  goes-on b i = go (does is_phi t i) (effect_of t i)
    where
      by : (e : Effect) (s : Bool) → in_order (cond s (Silent (silent_reads t f e i.operands) (silent_writes t f e (is_early_clobber (roles_of t i)) i.operands)) (Counted (rest_of t f e i) (map (λ x. x.0) (values t f e i)) (counted_writes t f e i) (option_map (way t f b.number) (target_of i.operands)) (cond (is_terminator e) (ways_out t f b) []))) ≡ true
      by e true = refl
      by e false = refl

      go : (c : Bool) (q : Option Effect) → in_order (cond c (Silent [] (defined_undef t f i.operands)) (elim q as (λ o. Item) [ None ↦ Silent [] [] | Some e ↦ effect_item t f b i e ])) ≡ true
      go true q = refl
      go false None = refl
      go false (Some e) = by e (is_silent e)

  stands : (pre : List Block) (b : Block) (after : List Block) → pre ++ b ∷ after ≡ f.blocks → found b.number (points_of t f) ≡ map (point_item t f b) b.instrs ++ (block_end t f b after ∷ blocks_code (point_item t f) t f after)
  unfolding points_of
  stands pre b after whole = ap (λ bs. found b.number (blocks_code (point_item t f) t f bs)) (sym whole) ∙ found-at t f low pre b after (subst (λ bs. Apart (block_numbers bs)) (sym whole) own-numbers)

  -- at the end of a block that leads to one where it is live
  module _ (b : Block) (e : Successor) (me : Member e b.successors) (k : ℕ) (live : LiveAt t f (Start e.block) (VirtualLane v k)) where
    flows : (after : List Block) (rest : Code) → Live (is_reserved t) (points_of t f) (block_end t f b after ∷ rest) (VirtualLane v k)
    flows after rest =
        leap {e = way t f b.number e.block} {a = VirtualLane v k} {b = VirtualLane v k}
        (map-in (λ (s : Successor). way t f b.number s.block) e b.successors me)
        live
        (ap (λ (w : Edge). filled w.phis (VirtualLane v k)) (way-bare t f none b.number e.block))
        refl
        refl

    at-end : (pre after : List Block) → pre ++ b ∷ after ≡ f.blocks → LiveAt t f (last_point (Start b.number) b.instrs) (VirtualLane v k)
    at-end pre after whole = go (end-of (Start b.number) b.instrs)
      where
        go : ◌≡◌ {A = List Instr} b.instrs [] ⊎ EndsWith (Start b.number) b.instrs → LiveAt t f (last_point (Start b.number) b.instrs) (VirtualLane v k)
        go (inl q) =
            let code : found b.number (points_of t f) ≡ block_end t f b after ∷ blocks_code (point_item t f) t f after = stands pre b after whole ∙ ap (λ is. map (point_item t f b) is ++ (block_end t f b after ∷ blocks_code (point_item t f) t f after)) q in
            subst (λ is. LiveAt t f (last_point (Start b.number) is) (VirtualLane v k)) (sym q)
            (subst (λ p. Live (is_reserved t) (points_of t f) p (VirtualLane v k)) (sym code) (flows after (blocks_code (point_item t f) t f after)))
        go (inr z) =
            let code : from_instr t f z.last.id f.blocks ≡ point_item t f b z.last ∷ (block_end t f b after ∷ blocks_code (point_item t f) t f after) = code-at t f low.function pre b after whole z.front z.last [] z.instrs ∙ ap (λ is. map (point_item t f b) is ++ (block_end t f b after ∷ blocks_code (point_item t f) t f after)) (rest-at t f low.function pre b after whole z.front z.last [] z.instrs) in
            subst (λ p. LiveAt t f p (VirtualLane v k)) (sym z.point)
            (subst (AtFirst (λ i p. LiveAfter (is_reserved t) (points_of t f) i p (VirtualLane v k))) (sym code) (after_next (goes-on b z.last) (flows after (blocks_code (point_item t f) t f after))))

    end-live : Member b f.blocks → LiveAt t f (last_point (Start b.number) b.instrs) (VirtualLane v k)
    end-live mb = let z = between b f.blocks mb in at-end z.0 z.1 z.2

  -- what is live at an exit is live or occupied there
  exit-occupied : (l : Lane) (c : Code) → is_reserved t l ≡ false → AtFirst (λ i p. LiveAfter (is_reserved t) (points_of t f) i p l) c → AtFirst (λ i p. OccupiedAfter (is_reserved t) (points_of t f) i p l) c
  exit-occupied l [] r h = h
  exit-occupied l (i ∷ p) r h = (inl h, r)

  end-occupied : (b : Block) (k : ℕ) → LiveAt t f (last_point (Start b.number) b.instrs) (VirtualLane v k) → OccupiedAt t f (last_point (Start b.number) b.instrs) (VirtualLane v k)
  end-occupied b k h = go (end-of (Start b.number) b.instrs)
    where
      go : ◌≡◌ {A = List Instr} b.instrs [] ⊎ EndsWith (Start b.number) b.instrs → OccupiedAt t f (last_point (Start b.number) b.instrs) (VirtualLane v k)
      go (inl q) = subst (λ is. OccupiedAt t f (last_point (Start b.number) is) (VirtualLane v k)) (sym q) (subst (λ is. LiveAt t f (last_point (Start b.number) is) (VirtualLane v k)) q h)
      go (inr z) = subst (λ p. OccupiedAt t f p (VirtualLane v k)) (sym z.point) (exit-occupied (VirtualLane v k) (from_instr t f z.last.id f.blocks) refl (subst (λ p. LiveAt t f p (VirtualLane v k)) z.point h))

  module _ (registers : List (Option Reg)) (view : View) (shows : Shows t f registers v view) where
    start-point : (d : Block) → Member d f.blocks → Member (Start d.number) (all_points f)
    start-point d md = flat-in block_points (Start d.number) d f.blocks md first

    end-within : (b : Block) → Member (end_point b) (block_points b)
    end-within b = last-in (Start b.number) b.instrs

    pub enters : (d : Block) → Member d f.blocks → RangeLive t f v (Start d.number) → live_at t f v view (In d.number) ≡ true
    enters d md h = (shows.live (Start d.number) (start-point d md)).1 h

    pub enters-point : (d : Block) → Member d f.blocks → RangeLive t f v (Start d.number) → list_any view.is_point (block_points d) ≡ true
    enters-point d md h = any-in view.is_point (Start d.number) (block_points d) first ((shows.is_point (Start d.number) (start-point d md)).1 h)

    module _ (b : Block) (mb : Member b f.blocks) (e : Successor) (me : Member e b.successors) (h : RangeLive t f v (Start e.block)) where
      end-there : Member (end_point b) (all_points f)
      end-there = flat-in block_points (end_point b) b f.blocks mb (end-within b)

      at-end-live : LiveAt t f (last_point (Start b.number) b.instrs) (VirtualLane v h.0)
      at-end-live = end-live b e me h.0 h.1 mb

      pub leaves : live_at t f v view (Out b.number) ≡ true
      leaves = ap (λ q. elim q as (λ o. Bool) [ None ↦ false | Some c ↦ view.live (end_point c) ]) (find-own f.blocks own-numbers b mb) ∙ (shows.live (end_point b) end-there).1 (h.0, at-end-live)

      pub leaves-point : list_any view.is_point (block_points b) ≡ true
      leaves-point = any-in view.is_point (end_point b) (block_points b) (end-within b) ((shows.is_point (end_point b) end-there).1 (h.0, end-occupied b h.0 at-end-live))

      pub joined : view.one_bundle (Out b.number, In e.block) ≡ true
      joined = (shows.one_bundle (Out b.number, In e.block)).1 (edge mb me)

    -- bundles that are in

    same-bundle : (x z y : Border) → view.one_bundle (x, z) ≡ true → view.one_bundle (x, y) ≡ view.one_bundle (z, y)
    same-bundle x z y e =
        let one : OneBundle f.blocks (x, z) = (shows.one_bundle (x, z)).0 e in
        same-truth (view.one_bundle (x, y)) (view.one_bundle (z, y))
        (λ h. (shows.one_bundle (z, y)).1 (onward (back one) ((shows.one_bundle (x, y)).0 h)))
        (λ h. (shows.one_bundle (x, y)).1 (onward one ((shows.one_bundle (z, y)).0 h)))

    pub in-same : (p : Reg) (x z : Border) → view.one_bundle (x, z) ≡ true → is_in t f v view p x ≡ is_in t f v view p z
    in-same p x z e = λ k. list_all (λ y. not (same-bundle x z y e k && live_at t f v view y) || border_clear t f v view p y) (borders t f v view)

    -- a block is clear where the range is live at a border of it that is in
    in-clear : (p : Reg) (x : Border) (d : Block) → Member d f.blocks → block_of x ≡ d.number → Member x (borders t f v view) → live_at t f v view x ≡ true → is_in t f v view p x ≡ true → is_clear t f v view p d ≡ true
    in-clear p x d md same mx l i =
        let own : view.one_bundle (x, x) ≡ true = (shows.one_bundle (x, x)).1 itself in
        let clear : border_clear t f v view p x ≡ true =
        sym (λ k. not (own k && l k) || border_clear t f v view p x) ∙ all-of (λ y. not (view.one_bundle (x, y) && live_at t f v view y) || border_clear t f v view p y) x (borders t f v view) mx i in
        sym (λ k. not (eq-eqb d.number (block_of x) (sym same) k) || is_clear t f v view p d) ∙ all-of (λ (b : Block). not (nat_eq b.number (block_of x)) || is_clear t f v view p b) d f.blocks md clear

    pub in-start-clear : (p : Reg) (d : Block) → Member d f.blocks → live_at t f v view (In d.number) ≡ true → is_in t f v view p (In d.number) ≡ true → is_clear t f v view p d ≡ true
    in-start-clear p d md = in-clear p (In d.number) d md refl (flat-in (λ (b : Block). In b.number ∷ Out b.number ∷ []) (In d.number) d f.blocks md first)

    pub in-end-clear : (p : Reg) (d : Block) → Member d f.blocks → live_at t f v view (Out d.number) ≡ true → is_in t f v view p (Out d.number) ≡ true → is_clear t f v view p d ≡ true
    in-end-clear p d md = in-clear p (Out d.number) d md refl (flat-in (λ (b : Block). In b.number ∷ Out b.number ∷ []) (Out d.number) d f.blocks md (later first))
