-- A counted instruction that is no terminator, with its tinies, keeps what its place has to.
use Rattle.std.proofs.Common.{◌≡◌, ◌⊎◌, inl, inr, ◌∷◌, ◌++◌, ◌∙◌, ◌&&◌, ℕ, Bool, true, false, cond, List, refl, sym, ap, subst, []}
use Rattle.target_base.specs.declared.types.Effect.{Effect}
use Rattle.target_base.specs.declared.types.Target.{Target}
use Rattle.target_base.specs.Roles.{is_silent}
use Rattle.meaning.specs.Code.{Code, Edge, Item}
use Rattle.meaning.specs.Lanes.{Writes, filled}
use Rattle.meaning.specs.Live.{Among as Member, Live, Writing, after_next, here as first, writes_of}
use Rattle.meaning.specs.declared.types.Fill.TheVariants.{Moved}
use Rattle.meaning.specs.declared.types.Lane.{Lane}
use Rattle.meaning.specs.declared.types.Lane.TheVariants.{SlotLane, VirtualLane}
use Rattle.meaning.specs.declared.types.Source.TheVariants.{FromLane}
use Rattle.mir_func.specs.declared.func.RegOp.{RegOp}
use Rattle.mir_func.specs.declared.func.Operand.TheVariants as operands
use Rattle.mir_func.specs.declared.func.Instr.{Instr}
use Rattle.mir_func.specs.declared.func.Block.{Block}
use Rattle.mir_func.specs.Value.{Function}
use Rattle.mir_func.specs.Binding.{definitions, does, is_definition, is_terminator, passes, roles_of}
use Rattle.mir_meaning.specs.Codes.{ways_out}
use Rattle.mir_meaning.specs.Items.{further_writes, results}
use Rattle.mir_meaning.specs.Registers.{is_reserved, operand_lanes}
use Rattle.instr_effects.proofs.Members.{left-in, map-in, member-elim, member-none}
use Rattle.live_laws.proofs.Effects.Shapes.{class-there}
use Rattle.lowering_laws.proofs.RulesStay.{lanes}
use Rattle.lowering_laws.proofs.Seated.{register-in}
use Rattle.split_laws.proofs.Splitting.{as-item}
use Rattle.spiller.specs.Setting.{Spilling, is_own, own_lanes}
use Rattle.spiller.specs.Spilled.{as_tiny, place_change, seats_from, spilled, with_tinies}
use Rattle.spill_laws.specs.Laws.{HasTinies}
use Rattle.spill_laws.specs.Standing.{IsSite, code_before}
use Rattle.spill_laws.specs.TinyPlaces.{GetsTinies}
use Rattle.spill_laws.proofs.SeatedPlaces.{definition-in-all}
use Rattle.spill_laws.proofs.SpillItems.{own-lanes-are}
use Rattle.spill_laws.proofs.TinyRules.{rolled}
use Rattle.clear_laws.proofs.CountedSeats.{before-is, counted-as, early, gives, keeps, known, loaded, now-is, own-wrote, phi, place-plain, seen, slotless, written}
use Rattle.clear_laws.proofs.CountedItems.{results-in}
use Rattle.clear_laws.proofs.PlaceBounds.{Wrote}
use Rattle.clear_laws.proofs.PlacesKept.{PlaceKept}
use Rattle.clear_laws.proofs.Replaced.{Held}
use Rattle.clear_laws.proofs.Seated.{IsSeated}
use Rattle.clear_laws.proofs.SeatedLoads.{silent-items}
use Rattle.clear_laws.proofs.SeatedPoints.{seated-kept}
use Rattle.clear_laws.proofs.SpillPoints.{goes-on, is-stored, is-wide}
use Rattle.clear_laws.proofs.TinyItems.{numbered-by, numbered-items}
use Rattle.clear_laws.proofs.TinyLoads.{HeldAt, load-further, load-gives, load-item, loads}
use Rattle.clear_laws.proofs.TinySaves.{save-gives, save-item, save-lanes, saved-to, saves}

module _ (s : Spilling) (b c : Block) (i : Instr) (p : Code) (n : ℕ) (gt : GetsTinies s (spilled s) b c (i ∷ []) p n) (goes : does is_terminator s.target i ≡ false) (counting : does is_silent s.target i ≡ false) where
  abbrev t : Target
  t = s.target

  abbrev f : Function
  f = s.func

  abbrev g : Function
  g = spilled s

  abbrev h : HasTinies s (spilled s) n (i ∷ [])
  h = gt.tinies

  abbrev e : Effect
  e = (rolled s (spilled s) n (i ∷ []) gt.tinies i first).effect

  each-counts : (j : Instr) → Member j (i ∷ []) → does is_silent s.target j ≡ false
  each-counts j m = member-elim j i [] (λ k. ap (does is_silent s.target) k ∙ counting) (λ k. absurd (member-none j k)) m

  goes-along : is_terminator (rolled s (spilled s) n (i ∷ []) gt.tinies i first).effect ≡ false
  goes-along = sym (ap (passes is_terminator) (known s b c (i ∷ []) p n gt each-counts i first)) ∙ goes

  abbrev X : Item
  X = counted-as s b c (i ∷ []) p n gt each-counts i first i

  abbrev Y : Item
  Y = counted-as s b c (i ∷ []) p n gt each-counts i first (with_tinies s (seats_from s n (i ∷ [])) i)

  site : IsSite s i.id (counted-as s b c (i ∷ []) p n gt each-counts i first i) p
  site = subst (λ y. IsSite s i.id y p) (before-is s b c (i ∷ []) p n gt each-counts i first) gt.at.0

  no-exits : (y : Edge) → Member y (cond (is_terminator (rolled s (spilled s) n (i ∷ []) gt.tinies i first).effect) (ways_out s.target (spilled s) c) []) → ⊥
  no-exits y m = member-none y (subst (λ (x : Bool). Member y (cond x (ways_out t g c) [])) goes-along m)

  own-in : (o : RegOp) → Member (operands.Reg o) i.operands → is_own s o ≡ true → is_definition o ≡ true → (j : ℕ) → Member j (own_lanes s o.index) → Wrote (writes_of (counted-as s b c (i ∷ []) p n gt each-counts i first i)) (VirtualLane s.range j)
  own-in o among own is j mj =
      let d = definition-in-all t i o among is in
      let class = class-there t f i (h.shaped i first) o (register-in o i.operands among) in
      let lane : Member (VirtualLane s.range j) (operand_lanes t g o) = subst (Member (VirtualLane s.range j)) (sym (lanes t f g h.keeps o.loc o.index class ∙ own-lanes-are s o own)) (map-in (VirtualLane s.range) j (own_lanes s o.index) mj) in
      let y = results-in t g 0 (definitions (roles_of t i) i.operands) (d.0, o) (VirtualLane s.range j) d.1 lane in
      (y.0, left-in y.0 (results t g 0 (definitions (roles_of t i) i.operands)) (further_writes t g e i) y.1, y.2)

  tiny-in : (o : RegOp) (k : ℕ) → Member (operands.Reg (as_tiny o k)) (with_tinies s (seats_from s n (i ∷ [])) i).operands → o.def ≡ true → (l : Lane) → Member l (operand_lanes s.target (spilled s) (as_tiny o k))
      → Wrote (writes_of (counted-as s b c (i ∷ []) p n gt each-counts i first (with_tinies s (seats_from s n (i ∷ [])) i))) l
  tiny-in o k among def l ml =
      let now = with_tinies s (seats_from s n (i ∷ [])) i in
      let d = definition-in-all t now (as_tiny o k) among (λ q. def q && true) in
      let y = results-in t g 0 (definitions (roles_of t now) now.operands) (d.0, as_tiny o k) l d.1 ml in
      (y.0, left-in y.0 (results t g 0 (definitions (roles_of t now) now.operands)) (further_writes t g e now) y.1, y.2)

  abbrev ld : List Writes
  ld = loads s b c (i ∷ []) p n gt (λ j o k there def. each-counts j k)

  abbrev sv : List Writes
  sv = saves s i n gt.tinies gt.setting c (writes_of (counted-as s b c (i ∷ []) p n gt each-counts i first i)) (writes_of (counted-as s b c (i ∷ []) p n gt each-counts i first (with_tinies s (seats_from s n (i ∷ [])) i))) own-in tiny-in

  given : (ws : Writes) (a l : Lane) → Member ws (loads s b c (i ∷ []) p n gt (λ j o k there def. each-counts j k)) → filled ws a ≡ Moved (FromLane l)
      → ((l ≡ a) × (Wrote ws a → ⊥)) ⊎ Held s.target s.func (spilled s) s.range s.slot (is-wide s) (is-stored s) (counted-as s b c (i ∷ []) p n gt each-counts i first i ∷ p) l
  given ws a l m fed = go (load-gives s b c (i ∷ []) p n gt (λ j o k there def. each-counts j k) ws m a l fed)
    where
      at-first : (j : Instr) → Member j (i ∷ []) → HeldAt s b c (i ∷ []) p n gt (λ j o k there def. each-counts j k) j l → HeldAt s b c (i ∷ []) p n gt (λ j o k there def. each-counts j k) i l
      at-first j mj k = member-elim j i [] (λ q. subst (λ y. HeldAt s b c (i ∷ []) p n gt (λ j o k there def. each-counts j k) y l) q k) (λ q. absurd (member-none j q)) mj

      go : ((l ≡ a) × (Wrote ws a → ⊥)) ⊎ ((j : Instr) × Member j (i ∷ []) × HeldAt s b c (i ∷ []) p n gt (λ j o k there def. each-counts j k) j l) → ((l ≡ a) × (Wrote ws a → ⊥)) ⊎ Held s.target s.func (spilled s) s.range s.slot (is-wide s) (is-stored s) (counted-as s b c (i ∷ []) p n gt each-counts i first i ∷ p) l
      go (inl q) = inl q
      go (inr q) = inr (subst (λ u. Held t f g s.range s.slot (is-wide s) (is-stored s) u l) site.from (at-first q.0 q.1 q.2))

  stored-to : (k w : ℕ) → is-wide s w → Writing (counted-as s b c (i ∷ []) p n gt each-counts i first i) (VirtualLane s.range k) → Live (is_reserved s.target) (code_before s) p (VirtualLane s.range k) → (ws : Writes) × Member ws (saves s i n gt.tinies gt.setting c (writes_of (counted-as s b c (i ∷ []) p n gt each-counts i first i)) (writes_of (counted-as s b c (i ∷ []) p n gt each-counts i first (with_tinies s (seats_from s n (i ∷ [])) i))) own-in tiny-in) × Wrote ws (SlotLane s.slot k w)
  stored-to k w wd wr live =
      let o = own-wrote s b c (i ∷ []) p n gt each-counts i first k wr in
      saved-to s i n gt.tinies gt.setting c (writes_of (counted-as s b c (i ∷ []) p n gt each-counts i first i)) (writes_of (counted-as s b c (i ∷ []) p n gt each-counts i first (with_tinies s (seats_from s n (i ∷ [])) i))) own-in tiny-in o.k o.q o.operand o.own o.def k o.inside w wd X p site.from (after_next site.order live)

  seated-here : IsSeated s.target s.func (spilled s) s.range s.slot (is-wide s) (is-stored s) (goes-on s) (counted-as s b c (i ∷ []) p n gt each-counts i first i) (counted-as s b c (i ∷ []) p n gt each-counts i first (with_tinies s (seats_from s n (i ∷ [])) i)) p (loads s b c (i ∷ []) p n gt (λ j o k there def. each-counts j k))
      (saves s i n gt.tinies gt.setting c (writes_of (counted-as s b c (i ∷ []) p n gt each-counts i first i)) (writes_of (counted-as s b c (i ∷ []) p n gt each-counts i first (with_tinies s (seats_from s n (i ∷ [])) i))) own-in tiny-in)
  seated-here = record {
    order = site.order;
    exits = refl;
    bare = λ y m. absurd (no-exits y m);
    leaves = λ y k m w. no-exits y m;
    slots = λ k w y. slotless s b c (i ∷ []) p n gt each-counts i first s.slot k w y;
    read_by = seen s b c (i ∷ []) p n gt each-counts i first;
    gives = gives s b c (i ∷ []) p n gt each-counts i first;
    keeps = keeps s b c (i ∷ []) p n gt each-counts i first;
    written = written s b c (i ∷ []) p n gt each-counts i first;
    early = early s b c (i ∷ []) p n gt each-counts i first;
    load_lanes = λ ws a m w. load-further s b c (i ∷ []) p n gt (λ j o k there def. each-counts j k) ws a m w;
    load_gives = λ ws a l m q. given ws a l m q;
    loaded = loaded s b c (i ∷ []) p n gt each-counts i first;
    save_lanes = λ ws a m w. save-lanes s i n gt.tinies gt.setting c (writes_of (counted-as s b c (i ∷ []) p n gt each-counts i first i)) (writes_of (counted-as s b c (i ∷ []) p n gt each-counts i first (with_tinies s (seats_from s n (i ∷ [])) i))) own-in tiny-in ws a m w;
    save_gives = λ ws a l m q. save-gives s i n gt.tinies gt.setting c (writes_of (counted-as s b c (i ∷ []) p n gt each-counts i first i)) (writes_of (counted-as s b c (i ∷ []) p n gt each-counts i first (with_tinies s (seats_from s n (i ∷ [])) i))) own-in tiny-in ws a l m q;
    saved = λ k w wd wr live st. stored-to k w wd wr live;
  }

  pub counted-kept : (m : ℕ) → PlaceKept s.target s.func (spilled s) s.range s.slot (is-wide s) (is-stored s) b c (i ∷ []) (numbered-by m (place_change s n (i ∷ []))) p
  counted-kept m =
      seated-kept t f g s.range s.slot (is-wide s) (is-stored s) (goes-on s) X Y p ld sv seated-here b c i (numbered-by m (place_change s n (i ∷ []))) (as-item t f b i (phi s b c (i ∷ []) p n gt each-counts i first) ∙ before-is s b c (i ∷ []) p n gt each-counts i first)
      (numbered-items t g c m (place_change s n (i ∷ [])) (place-plain s b c (i ∷ []) p n gt)
      ∙ (λ k. silent-items t g c (place_change s n (i ∷ [])).before (load-item s b c (i ∷ []) p n gt (λ j o k there def. each-counts j k)) k ++ (now-is s b c (i ∷ []) p n gt each-counts i first k ∷ silent-items t g c (place_change s n (i ∷ [])).behind (save-item s i n gt.tinies gt.setting c (writes_of (counted-as s b c (i ∷ []) p n gt each-counts i first i)) (writes_of (counted-as s b c (i ∷ []) p n gt each-counts i first (with_tinies s (seats_from s n (i ∷ [])) i))) own-in tiny-in) k)))
      site.from
