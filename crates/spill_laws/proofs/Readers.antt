-- Terminators read tinies that were loaded before the first of them.
use Rattle.std.proofs.Common.{◌≡◌, ◌∷◌, inl, inr, ◌∙◌, ◌≤◌, ℕ, true, false, List, Option, Some, None, length, map, refl, sym, ap, subst, []}
use Rattle.meaning.specs.Code.{Code, Counted, Edge, Item}
use Rattle.meaning.specs.Lanes.{Reads, Writes, filled, through}
use Rattle.meaning.specs.Live.{Among as Member, after_next}
use Rattle.meaning.specs.Relations.{AlikeFill, AlikeOperands, Rel, Within, after_both}
use Rattle.meaning.specs.Rows.{first_edges, first_target, second_edges, second_target}
use Rattle.meaning.specs.declared.types.EdgePair.{EdgePair}
use Rattle.meaning.specs.declared.types.Fill.TheVariants.{Moved}
use Rattle.meaning.specs.declared.types.Lane.{Lane}
use Rattle.meaning.specs.declared.types.Lane.TheVariants.{VirtualLane}
use Rattle.meaning.specs.declared.types.Rest.{Rest}
use Rattle.meaning.specs.declared.types.Source.{Source}
use Rattle.meaning.specs.declared.types.Source.TheVariants.{Bits, FromLane, Undef}
use Rattle.laws.proofs.Core.{Exits, Reaches}
use Rattle.laws.proofs.Steps.{both_into, both_ways, first-into, first-ways, second-into, second-ways}
use Rattle.lowering_laws.proofs.Stretches.{Stretch, along-more, both-counted, both-more, lessened}
use Rattle.lowering_laws.proofs.Traced.{filled-free, is_written, second-silents, silents, traced, traced-bits}
use Rattle.spiller.specs.Setting.{Spilling}
use Rattle.spill_laws.specs.Standing.{LeavesRange, OwnStands, Stands, slot_lane, starts}
use Rattle.spill_laws.specs.Seats.{Held, IsPlain, Load, LoadsHold, ReadersHold, load_writes}
use Rattle.lowering_laws.proofs.Olds.{is_old}
use Rattle.spill_laws.proofs.Chains.{old-apart}
use Rattle.spill_laws.proofs.Loads.{loaded, loads-leave}
use Rattle.spill_laws.proofs.SlotPlaces.{traced-constant}
use Rattle.spill_laws.proofs.Bystanders.{in-order, leads-all, leaps-to, sources}
use Rattle.spill_laws.proofs.Standing.{live-before, own-back, unwritten}

module _ (s : Spilling) (loads : List Load) (r : Rest) (reads reads' : Reads) (ws : Writes) (target : Option Edge) (exits : List Edge) (p : Code) (leaves : LeavesRange s (Counted r reads ws target exits) p) (free : (l : Load) (z : ℕ) → Member l loads → is_written ws (VirtualLane l.tiny z) ≡ false) where
  abbrev i : Item
  i = Counted r reads ws target exits

  abbrev B : Rel
  B = Stands s (i ∷ p)

  abbrev H : Rel
  H = Held s loads (i ∷ p)

  more : Within B H
  more a u k = inl k

  exits-more : (es : List EdgePair) → Exits (starts s) es (after_both ws ws B) → Exits (starts s) es (after_both ws ws H)
  exits-more es x e m a u k = along-more e (after_both ws ws H) (after_both ws ws B) (both-more ws ws H B more) a u (x e m a u k)

  target-more : (e : Option EdgePair) → Reaches (starts s) e (after_both ws ws B) → Reaches (starts s) e (after_both ws ws H)
  target-more None x = tt
  target-more (Some e) x = λ a u k. along-more e (after_both ws ws H) (after_both ws ws B) (both-more ws ws H B more) a u (x a u k)

  behind : Within (Held s loads p) (after_both ws ws H)
  behind a u (inl k) = both-more ws ws H B more a u (sources s i p leaves p (in-order s i p leaves refl) a u k)
  behind a u (inr y) =
      let k = y.0 in
      let f : filled ws (VirtualLane s.range k) ≡ Moved (FromLane (VirtualLane s.range k)) = filled-free ws (VirtualLane s.range k) (leaves.writes k) in
      let g : filled ws (VirtualLane y.2.tiny y.1) ≡ Moved (FromLane (VirtualLane y.2.tiny y.1)) = filled-free ws (VirtualLane y.2.tiny y.1) (free y.2 y.1 y.3) in
      subst (λ c. AlikeFill H (through ws c) (through ws u)) (sym y.4)
      (subst (λ c. AlikeFill H (filled ws (VirtualLane s.range k)) (through ws c)) (sym y.5)
      (subst (λ c. AlikeFill H c (filled ws (VirtualLane y.2.tiny y.1))) (sym f)
      (subst (λ c. AlikeFill H (Moved (FromLane (VirtualLane s.range k))) c) (sym g)
      (inr (k, y.1, y.2, y.3, refl, refl, y.6, live-before s i p k f (after_next refl y.7), own-back s i p k (λ w. unwritten ws (VirtualLane s.range k) (leaves.writes k) w.0 w.1 w.2) _ refl y.8)))))

  pub reader-holds : AlikeOperands H reads reads' → Stretch (starts s) H (Held s loads p) (i ∷ []) (Counted r reads' ws target exits ∷ [])
  reader-holds alike =
      lessened (starts s) H (after_both ws ws H) (Held s loads p) (i ∷ []) (Counted r reads' ws target exits ∷ []) behind
      (subst (λ y. Stretch (starts s) H (after_both ws ws H) (y ∷ []) (Counted r reads' ws target exits ∷ [])) first-item
      (subst (λ y. Stretch (starts s) H (after_both ws ws H) (Counted r reads ws (first_target (both_into target)) (first_edges (both_ways exits)) ∷ []) (y ∷ [])) second-item
      (both-counted (starts s) H r reads reads' ws ws (both_into target) (both_ways exits) alike
      (target-more (both_into target) (leaps-to s i p leaves target leaves.inside.2 leaves.inside.0))
      (exits-more (both_ways exits) (leads-all s i p leaves exits (λ e m. m) leaves.inside.1)))))
    where
      first-item : Counted r reads ws (first_target (both_into target)) (first_edges (both_ways exits)) ≡ Counted r reads ws target exits
      first-item = λ j. Counted r reads ws (first-into target j) (first-ways exits j)

      second-item : Counted r reads' ws (second_target (both_into target)) (second_edges (both_ways exits)) ≡ Counted r reads' ws target exits
      second-item = λ j. Counted r reads' ws (second-into target j) (second-ways exits j)

pub readers_hold : ReadersHold
readers_hold s loads r reads reads' ws target exits p leaves free alike = reader-holds s loads r reads reads' ws target exits p leaves free alike

-- what is loaded before a place is held there
module _ (s : Spilling) (loads : List Load) (p : Code) (further : (l : Load) → Member l loads → length s.func.classes ≤ l.tiny) (once : (l m : Load) → Member l loads → Member m loads → l.tiny ≡ m.tiny → l ≡ m) (plain : (l : Load) (q : Source) → Member l loads → Member q l.sources → IsPlain q) where
  abbrev pre : List Writes
  pre = map load_writes loads

  loads-past : (a : Lane) → is_old (length s.func.classes) a ≡ true → traced pre (FromLane a) ≡ FromLane a
  loads-past a o = loads-leave loads a (λ l m. old-apart (length s.func.classes) l.tiny a (further l m) o)

  held-before : Within (Held s loads p) (λ a u. Stands s p a (traced pre u))
  held-before (FromLane a) u (inl (inl b)) = subst (λ q. Stands s p (FromLane a) (traced pre q)) (sym b.2) (subst (Stands s p (FromLane a)) (sym (loads-past a b.0.old)) (inl (b.0, b.1, refl)))
  held-before (FromLane a) u (inl (inr b)) = inr (b.0, b.1, b.2, by b.3)
    where
      by : OwnStands s p b.0 u → OwnStands s p b.0 (traced pre u)
      by (inl o) = inl (o.0, ap (traced pre) o.1 ∙ loads-past (slot_lane s b.0) refl)
      by (inr o) = subst (OwnStands s p b.0) (sym (traced-constant s pre u o.constant)) (inr o)
  held-before Undef u (inl k) = tt
  held-before (Bits c low w) u (inl k) = ap (traced pre) k ∙ traced-bits pre c low w
  held-before a u (inr y) =
      subst (λ c. Stands s p c (traced pre u)) (sym y.4)
      (subst (λ c. Stands s p (FromLane (VirtualLane s.range y.0)) (traced pre c)) (sym y.5)
      (subst (Stands s p (FromLane (VirtualLane s.range y.0))) (sym (loaded loads once plain y.1 y.2 y.3 y.6)) (inr (y.0, refl, y.7, y.8))))

  pub loads-hold : Stretch (starts s) (Stands s p) (Held s loads p) [] (silents (map load_writes loads))
  loads-hold = lessened (starts s) (Stands s p) (λ a u. Stands s p a (traced pre u)) (Held s loads p) [] (silents pre) held-before (second-silents (starts s) (Stands s p) pre)

pub loads_hold : LoadsHold
loads_hold s loads p further once plain = loads-hold s loads p further once plain
