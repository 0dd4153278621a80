-- Items that give lanes their sources and make others undefined only move lanes.
use Rattle.std.proofs.Common.{◌≡◌, ◌⊎◌, ℕ, Bool, true, false, cond, ◌&&◌, List, [], ◌∷◌, ◌++◌, Some, map, refl, sym, ap, ◌∙◌, subst, inl, inr, eq-eqb}
use Rattle.std.specs.Prelude.{nat_eq}
use Rattle.std.specs.List.{cons_option}
use Rattle.meaning.specs.declared.types.Lane.{Lane}
use Rattle.meaning.specs.declared.types.Lane.TheVariants.{VirtualLane, UnitLane, SlotLane}
use Rattle.meaning.specs.declared.types.Source.{Source}
use Rattle.meaning.specs.declared.types.Source.TheVariants.{FromLane, Undef, Bits}
use Rattle.meaning.specs.declared.types.Fill.TheVariants.{Moved}
use Rattle.meaning.specs.declared.types.Write.{Write}
use Rattle.meaning.specs.Lanes.{Writes, same_lane, filled}
use Rattle.meaning.specs.Code.{Item}
use Rattle.meaning.specs.Live.{Among as Member, here as first, there as later, reads_of, writes_of, exits_of as edges_of, in_order, is_slot}
use Rattle.mir_meaning.specs.Stands.{Tags}
use Rattle.mir_meaning.specs.Items.{write, moved, undefined}
use Rattle.instr_effects.specs.Owners.{owner_of, source_owner, owners_read}
use Rattle.instr_effects.proofs.Members.{member-none, member-elim, left-in, in-either, map-of, map-in}
use Rattle.instr_effects.proofs.Plain.{same-is, filled-cases, moved-same}
use Rattle.live_laws.specs.Effects.Moving.{Moves, Unwritten, IsMoving}

pub same-true : (a : Lane) → same_lane a a ≡ true
same-true (VirtualLane v k) = ap (λ b. b && nat_eq k k) (eq-eqb v v refl) ∙ eq-eqb k k refl
same-true (UnitLane u) = eq-eqb u u refl
same-true (SlotLane s k w) = ap (λ b. b && (nat_eq k k && nat_eq w w)) (eq-eqb s s refl) ∙ ap (λ b. b && nat_eq w w) (eq-eqb k k refl) ∙ eq-eqb w w refl

-- no two are equal
abbrev pub Apart : {X : Type 0} → List X → Type 0
Apart [] = Unit {0}
Apart (x ∷ xs) = (Member x xs → ⊥) × Apart xs

-- a source that names a lane has an owner
pub source-in : (l : Lane) (ss : List Source) → Member (FromLane l) ss → Member (owner_of l) (owners_read ss)
source-in l [] m = absurd (member-none (FromLane l) m)
source-in l (s ∷ ss) m =
    member-elim (FromLane l) s ss (λ e. subst (λ x. Member (owner_of l) (cons_option (source_owner x) (owners_read ss))) e first) (λ k. past s (source-in l ss k)) m
  where
    past : (s : Source) → Member (owner_of l) (owners_read ss) → Member (owner_of l) (cons_option (source_owner s) (owners_read ss))
    past (FromLane a) k = later k
    past Undef k = k
    past (Bits c low w) k = k

from-moved : (s : Source) (l : Lane) → Moved s ≡ Moved (FromLane l) → s ≡ FromLane l
from-moved s l e = cc

module _ (early : Bool) where
  -- a write among moves is of a lane from a source
  pub moved-of : (w : Write) (ds : List Lane) (ss : List Source) → Member w (moved early ds ss) → (s : Source) × Member w.lane ds × Member s ss × (w.fill ≡ Moved s)
  moved-of w [] ss m = absurd (member-none w m)
  moved-of w (d ∷ ds) [] m = absurd (member-none w m)
  moved-of w (d ∷ ds) (s ∷ ss) m =
      member-elim w (write early d (Moved s)) (moved early ds ss) (λ e. (s, subst (λ x. Member x (d ∷ ds)) (sym (ap (λ v. v.lane) e)) first, first, ap (λ v. v.fill) e))
      (λ k. let z = moved-of w ds ss k in (z.0, later z.1, later z.2, z.3)) m

  pub undefined-fill : (w : Write) (us : List Lane) → Member w (undefined early us) → w.fill ≡ Moved Undef
  undefined-fill w us m = let z = map-of (λ l. write early l (Moved Undef)) w us m in ap (λ v. v.fill) z.2

  pub undefined-lane : (w : Write) (us : List Lane) → Member w (undefined early us) → Member w.lane us
  undefined-lane w us m = let z = map-of (λ l. write early l (Moved Undef)) w us m in subst (λ x. Member x us) (sym (ap (λ v. v.lane) z.2)) z.1

  pub undefined-in : (l : Lane) (us : List Lane) → Member l us → (w : Write) × Member w (undefined early us) × (w.lane ≡ l)
  undefined-in l us m = (write early l (Moved Undef), map-in (λ k. write early k (Moved Undef)) l us m, refl)

  moves-later : (l a : Lane) (w : Write) (ws : Writes) → Moves ws l a → Moves (w ∷ ws) l a
  moves-later l a w ws z = (z.0, later z.1, z.2, z.3)

  moves-left : (l a : Lane) (ws vs : Writes) → Moves ws l a → Moves (ws ++ vs) l a
  moves-left l a ws vs z = (z.0, left-in z.0 ws vs z.1, z.2, z.3)

  -- what moves lanes stands among the moves
  moves-of : (l a : Lane) (ds : List Lane) (ss : List Source) (us : List Lane) → Moves (moved early ds ss ++ undefined early us) l a → Moves (moved early ds ss) l a
  moves-of l a ds ss us z = go (in-either z.0 (moved early ds ss) (undefined early us) z.1)
    where
      go : Member z.0 (moved early ds ss) ⊎ Member z.0 (undefined early us) → Moves (moved early ds ss) l a
      go (inl m) = (z.0, m, z.2, z.3)
      go (inr m) = absurd (let e = sym (undefined-fill z.0 us m) ∙ z.3 in cc)

  -- the first write of a lane is the move
  pub first-move : (l a : Lane) (ds : List Lane) (ss : List Source) (vs : Writes) → Apart (map owner_of ds) → Moves (moved early ds ss) l a → filled (moved early ds ss ++ vs) a ≡ Moved (FromLane l)
  first-move l a [] ss vs p z = absurd (member-none z.0 z.1)
  first-move l a (d ∷ ds) [] vs p z = absurd (member-none z.0 z.1)
  first-move l a (d ∷ ds) (s ∷ ss) vs p z =
      member-elim z.0 (write early d (Moved s)) (moved early ds ss) (λ e. at (ap (λ v. v.lane) (sym e) ∙ z.2) (ap (λ v. v.fill) (sym e) ∙ z.3)) (λ k. past (same_lane d a) refl k (first-move l a ds ss vs p.1 (z.0, k, z.2, z.3))) z.1
    where
      rest : Writes
      rest = moved early ds ss ++ vs

      at : d ≡ a → Moved s ≡ Moved (FromLane l) → cond (same_lane d a) (Moved s) (filled rest a) ≡ Moved (FromLane l)
      at e f = ap (λ b. cond b (Moved s) (filled rest a)) (ap (λ x. same_lane x a) e ∙ same-true a) ∙ f

      past : (b : Bool) → same_lane d a ≡ b → Member z.0 (moved early ds ss) → filled rest a ≡ Moved (FromLane l) → cond b (Moved s) (filled rest a) ≡ Moved (FromLane l)
      past false e k f = f
      past true e k f =
          let y = moved-of z.0 ds ss k in
          let g : d ≡ z.0.lane = same-is d a e ∙ sym z.2 in
          absurd (p.0 (subst (λ x. Member (owner_of x) (map owner_of ds)) (sym g) (map-in owner_of z.0.lane ds y.1)))

  -- a lane has what was moved there, or it keeps what it had
  given-by : (l a : Lane) (ds : List Lane) (ss : List Source) (us : List Lane) → filled (moved early ds ss ++ undefined early us) a ≡ Moved (FromLane l) → (l ≡ a) ⊎ Moves (moved early ds ss) l a
  given-by l a ds ss us f = go (filled-cases (moved early ds ss ++ undefined early us) a)
    where
      go : ((w : Write) × Member w (moved early ds ss ++ undefined early us) × (w.lane ≡ a) × (filled (moved early ds ss ++ undefined early us) a ≡ w.fill)) ⊎ ((filled (moved early ds ss ++ undefined early us) a ≡ Moved (FromLane a)) × ((w : Write) → Member w (moved early ds ss ++ undefined early us) → w.lane ≡ a → ⊥)) → (l ≡ a) ⊎ Moves (moved early ds ss) l a
      go (inl z) = inr (moves-of l a ds ss us (z.0, z.1, z.2, sym z.3 ∙ f))
      go (inr z) = inl (moved-same l a (sym f ∙ z.0))

  -- of sources that are apart each goes to one lane
  pub move-once : (l m a c : Lane) (ds : List Lane) (ss : List Source) → Apart (owners_read ss) → Moves (moved early ds ss) l a → Moves (moved early ds ss) m c → owner_of l ≡ owner_of m → owner_of a ≡ owner_of c
  move-once l m a c [] ss p z y e = absurd (member-none z.0 z.1)
  move-once l m a c (d ∷ ds) [] p z y e = absurd (member-none z.0 z.1)
  move-once l m a c (d ∷ ds) (s ∷ ss) p z y e =
      member-elim z.0 (write early d (Moved s)) (moved early ds ss) (λ g. member-elim y.0 (write early d (Moved s)) (moved early ds ss) (λ h. both g h) (λ k. absurd (clash l m s (from-moved s l (ap (λ v. v.fill) (sym g) ∙ z.3)) (source-of y k) e p)) y.1)
      (λ j. member-elim y.0 (write early d (Moved s)) (moved early ds ss) (λ h. absurd (clash m l s (from-moved s m (ap (λ v. v.fill) (sym h) ∙ y.3)) (source-of z j) (sym e) p)) (λ k. move-once l m a c ds ss (less s p) (z.0, j, z.2, z.3) (y.0, k, y.2, y.3) e) y.1) z.1
    where
      both : z.0 ≡ write early d (Moved s) → y.0 ≡ write early d (Moved s) → owner_of a ≡ owner_of c
      both g h = ap owner_of (sym z.2 ∙ ap (λ v. v.lane) (g ∙ sym h) ∙ y.2)

      source-of : {x b : Lane} (q : Moves (moved early (d ∷ ds) (s ∷ ss)) x b) → Member q.0 (moved early ds ss) → Member (FromLane x) ss
      source-of {x} q k = let r = moved-of q.0 ds ss k in subst (λ v. Member v ss) (from-moved r.0 x (sym r.3 ∙ q.3)) r.2

      less : (s : Source) → Apart (cons_option (source_owner s) (owners_read ss)) → Apart (owners_read ss)
      less (FromLane x) p = p.1
      less Undef p = p
      less (Bits x low w) p = p

      clash : (x b : Lane) (s : Source) → s ≡ FromLane x → Member (FromLane b) ss → owner_of x ≡ owner_of b → Apart (cons_option (source_owner s) (owners_read ss)) → ⊥
      clash x b (FromLane u) f k g p = p.0 (subst (λ o. Member o (owners_read ss)) (sym g ∙ ap owner_of (let h : x ≡ u = cc in h)) (source-in b ss k))
      clash x b Undef f k g p = cc
      clash x b (Bits u low w) f k g p = cc

module _ (reserved : Lane → Bool) (tag : Tags) (i : Item) (early : Bool) (ds : List Lane) (ss : List Source) (xs ys : List Lane) where
  abbrev W : Writes
  W = moved early ds ss ++ undefined early xs

  abbrev E : Writes
  E = moved early ds ss ++ undefined early ys

  abbrev Cases : Lane → Type 0
  Cases a = ((w : Write) × Member w W × (w.lane ≡ a) × (filled W a ≡ w.fill)) ⊎ ((filled W a ≡ Moved (FromLane a)) × ((w : Write) → Member w W → w.lane ≡ a → ⊥))

  -- lanes of an owner that is entered are written, and the other way round
  pub record IsGiven : Type 0 where
    pub apart : Apart (map owner_of ds)
    pub once : Apart (owners_read ss)
    pub closed : (a : Lane) (n : ℕ) → tag a ≡ Some n → (w : Write) → Member w E → owner_of w.lane ≡ owner_of a → (v : Write) × Member v W × (v.lane ≡ a)
    pub covered : (v : Write) → Member v W → (w : Write) × Member w E × (owner_of w.lane ≡ owner_of v.lane)
    pub sources : (l : Lane) → Member (FromLane l) ss → reserved l ≡ false → (n : ℕ) × (tag l ≡ Some n)
    pub written : (w : Write) → Member w E → reserved w.lane ≡ false → (n : ℕ) × (tag w.lane ≡ Some n)
    pub unslotted : (l a : Lane) → Member (FromLane l) ss → Member a ds → is_slot a ≡ true → is_slot l ≡ false

  pub given-moving : IsGiven → in_order i ≡ true → edges_of i ≡ [] → reads_of i ≡ [] → writes_of i ≡ W → IsMoving reserved tag i E
  given-moving h ordered ends quiet is = record {
    ordered = ordered;
    ends = ends;
    quiet = quiet;
    given = λ l a r f. given l a (given-by early l a ds ss xs (ap (λ x. filled x a) (sym is) ∙ f));
    left = λ a n e f. left a n e (ap (λ x. filled x a) (sym is) ∙ f) (filled-cases W a);
    gives = λ l a z. ap (λ x. filled x a) is ∙ first-move early l a ds ss (undefined early xs) h.apart (moves-of early l a ds ss ys z);
    stays = λ l n. ap (λ x. filled x l) is ∙ stay l n (filled-cases W l);
    once = λ l m a c z y e. move-once early l m a c ds ss h.once (moves-of early l a ds ss ys z) (moves-of early m c ds ss ys y) e;
    sources = λ l a z r. h.sources l (from l a (moves-of early l a ds ss ys z)).0 r;
    written = h.written;
    unslotted = λ l a z s. let y = from l a (moves-of early l a ds ss ys z) in h.unslotted l a y.0 y.1 s;
  }
    where
      from : (l a : Lane) → Moves (moved early ds ss) l a → Member (FromLane l) ss × Member a ds
      from l a z = let y = moved-of early z.0 ds ss z.1 in (subst (λ x. Member x ss) (from-moved y.0 l (sym y.3 ∙ z.3)) y.2, subst (λ x. Member x ds) z.2 y.1)

      given : (l a : Lane) → (l ≡ a) ⊎ Moves (moved early ds ss) l a → (l ≡ a) ⊎ Moves E l a
      given l a (inl e) = inl e
      given l a (inr z) = inr (moves-left early l a (moved early ds ss) (undefined early ys) z)

      left : (a : Lane) (n : ℕ) → tag a ≡ Some n → filled W a ≡ Moved (FromLane a) → Cases a → Unwritten E (owner_of a) ⊎ Moves E a a
      left a n e f (inl z) = inr (moves-left early a a (moved early ds ss) (undefined early ys) (moves-of early a a ds ss xs (z.0, z.1, z.2, sym z.3 ∙ f)))
      left a n e f (inr z) = inl (λ w m g. let y = h.closed a n e w m g in z.1 y.0 y.1 y.2)

      stay : (l : Lane) → Unwritten E (owner_of l) → Cases l → filled W l ≡ Moved (FromLane l)
      stay l n (inr z) = z.0
      stay l n (inl z) = let y = h.covered z.0 z.1 in absurd (n y.0 y.1 (y.2 ∙ ap owner_of z.2))
