-- The rows of a pairing are the two codes.
use Rattle.std.proofs.Common.{◌≡◌, ◌∷◌, ◌∙◌, Bool, true, false, cond, eqb, List, Option, Some, None, refl, ap, subst, []}
use Rattle.std.proofs.lemmas.Bool.{eqb-true}
use Rattle.meaning.specs.Code.{BlockEnd, BlockStart, Code, Counted, Edge, Item, Silent}
use Rattle.meaning.specs.Lanes.{Reads, Writes}
use Rattle.meaning.specs.Pairing.{before, meet, pair_edge, pair_edges, pair_falls, pair_item, pair_target, paired, pairing, rest_rows}
use Rattle.meaning.specs.Rows.{first_edge, first_edges, first_falls, first_of_rows, first_target, second_edge, second_edges, second_falls, second_of_rows, second_target}
use Rattle.meaning.specs.Sameness.{same_rest}
use Rattle.meaning.specs.declared.types.Row.{Row}
use Rattle.meaning.specs.declared.types.Row.TheVariants.{BothCounted, BothEnd, BothStart, FirstSilent, SecondSilent}
use Rattle.meaning.specs.declared.types.EdgePair.{EdgePair}
use Rattle.laws.proofs.Same.{rest-true}

bind-some : {A B : Type 0} (x : Option A) (f : A → Option B) (b : B) → elim x [ None ↦ None | Some a ↦ f a ] ≡ Some b → (a : A) × (x ≡ Some a) × (f a ≡ Some b)
bind-some None f b e = absurd (cc)
bind-some (Some a) f b e = (a, refl, e)

some-same : {A : Type 0} (x y : A) → Some x ≡ Some y → x ≡ y
some-same x y e = cc

cond-some : {A : Type 0} (b : Bool) (x : Option A) (y : A) → cond b x None ≡ Some y → (b ≡ true) × (x ≡ Some y)
cond-some true x y e = (refl, e)
cond-some false x y e = absurd (cc)

-- a pair's first and second parts
abbrev EdgeIs : EdgePair → Edge → Edge → Type 0
EdgeIs w e f = (first_edge w ≡ e) × (second_edge w ≡ f)

edge-right : (e f : Edge) (w : EdgePair) → pair_edge e f ≡ Some w → EdgeIs w e f
edge-right e f w h =
    let v : EdgePair = record { block = e.block; first = e.phis; second = f.phis } in
    let k = cond-some (eqb e.block f.block) (Some v) w h in
    let x = eqb-true e.block f.block k.0 in
    let at : EdgeIs v e f = (refl, λ i. record { block = x i; phis = f.phis }) in
    subst (λ u. EdgeIs u e f) (some-same v w k.1) at

edges-right : (es fs : List Edge) (ws : List EdgePair) → pair_edges es fs ≡ Some ws → (first_edges ws ≡ es) × (second_edges ws ≡ fs)
edges-right [] [] ws h = subst (λ u. (first_edges u ≡ []) × (second_edges u ≡ [])) (some-same [] ws h) (refl, refl)
edges-right [] (f ∷ fs) ws h = absurd (cc)
edges-right (e ∷ es) [] ws h = absurd (cc)
edges-right (e ∷ es) (f ∷ fs) ws h =
    let a = bind-some (pair_edge e f) (λ w. elim (pair_edges es fs) [ None ↦ None | Some us ↦ Some (w ∷ us) ]) ws h in
    let b = bind-some (pair_edges es fs) (λ us. Some (a.0 ∷ us)) ws a.2 in
    let x = edge-right e f a.0 a.1 in
    let y = edges-right es fs b.0 b.1 in
    subst (λ u. (first_edges u ≡ e ∷ es) × (second_edges u ≡ f ∷ fs)) (some-same (a.0 ∷ b.0) ws b.2) ((λ i. x.0 i ∷ y.0 i), (λ i. x.1 i ∷ y.1 i))

target-right : (e f : Option Edge) (w : Option EdgePair) → pair_target e f ≡ Some w → (first_target w ≡ e) × (second_target w ≡ f)
target-right None None w h = subst (λ u. (first_target u ≡ None) × (second_target u ≡ None)) (some-same None w h) (refl, refl)
target-right None (Some f) w h = absurd (cc)
target-right (Some e) None w h = absurd (cc)
target-right (Some e) (Some f) w h =
    let a = bind-some (pair_edge e f) (λ v. Some (Some v)) w h in
    let x = edge-right e f a.0 a.1 in
    subst (λ u. (first_target u ≡ Some e) × (second_target u ≡ Some f)) (some-same (Some a.0) w a.2) (ap Some x.0, ap Some x.1)

falls-right : (e f : Option Writes) (w : Option (Writes × Writes)) → pair_falls e f ≡ Some w → (first_falls w ≡ e) × (second_falls w ≡ f)
falls-right None None w h = subst (λ u. (first_falls u ≡ None) × (second_falls u ≡ None)) (some-same None w h) (refl, refl)
falls-right None (Some f) w h = absurd (cc)
falls-right (Some e) None w h = absurd (cc)
falls-right (Some e) (Some f) w h = subst (λ u. (first_falls u ≡ Some e) × (second_falls u ≡ Some f)) (some-same (Some (e, f)) w h) (refl, refl)

abbrev RowIs : Row → Item → Item → Type 0
RowIs r i j = (rows : List Row) → (first_of_rows (r ∷ rows) ≡ i ∷ first_of_rows rows) × (second_of_rows (r ∷ rows) ≡ j ∷ second_of_rows rows)

item-right : (i j : Item) (r : Row) → pair_item i j ≡ Some r → RowIs r i j
item-right (BlockStart n) (BlockStart m) r h =
    let k = cond-some (eqb n m) (Some (BothStart n)) r h in
    let x = eqb-true n m k.0 in
    subst (λ u. RowIs u (BlockStart n) (BlockStart m)) (some-same (BothStart n) r k.1) (λ rows. (refl, λ i. BlockStart (x i) ∷ second_of_rows rows))
item-right (BlockEnd falls exits) (BlockEnd falls' exits') r h =
    let a = bind-some (pair_falls falls falls') (λ fall. elim (pair_edges exits exits') [ None ↦ None | Some ways ↦ Some (BothEnd fall ways) ]) r h in
    let b = bind-some (pair_edges exits exits') (λ ways. Some (BothEnd a.0 ways)) r a.2 in
    let x = falls-right falls falls' a.0 a.1 in
    let y = edges-right exits exits' b.0 b.1 in
    let at : RowIs (BothEnd a.0 b.0) (BlockEnd falls exits) (BlockEnd falls' exits') = λ rows. ((λ i. BlockEnd (x.0 i) (y.0 i) ∷ first_of_rows rows), (λ i. BlockEnd (x.1 i) (y.1 i) ∷ second_of_rows rows)) in
    subst (λ u. RowIs u (BlockEnd falls exits) (BlockEnd falls' exits')) (some-same (BothEnd a.0 b.0) r b.2) at
item-right (Counted s reads ws target exits) (Counted s' reads' ws' goal' exits') r h =
    let pairs : Option EdgePair → Option Row = λ to. elim (pair_edges exits exits') [ None ↦ None | Some ways ↦ Some (BothCounted s reads reads' ws ws' to ways) ] in
    let c = cond-some (same_rest s s') (elim (pair_target target goal') [ None ↦ None | Some to ↦ pairs to ]) r h in
    let a = bind-some (pair_target target goal') pairs r c.1 in
    let b = bind-some (pair_edges exits exits') (λ ways. Some (BothCounted s reads reads' ws ws' a.0 ways)) r a.2 in
    let z = rest-true s s' c.0 in
    let x = target-right target goal' a.0 a.1 in
    let y = edges-right exits exits' b.0 b.1 in
    let at : RowIs (BothCounted s reads reads' ws ws' a.0 b.0) (Counted s reads ws target exits) (Counted s' reads' ws' goal' exits') = λ rows. ((λ i. Counted s reads ws (x.0 i) (y.0 i) ∷ first_of_rows rows), (λ i. Counted (z i) reads' ws' (x.1 i) (y.1 i) ∷ second_of_rows rows)) in
    subst (λ u. RowIs u (Counted s reads ws target exits) (Counted s' reads' ws' goal' exits')) (some-same (BothCounted s reads reads' ws ws' a.0 b.0) r b.2) at
item-right i j r h = absurd (cc)

-- the rows are these two codes
abbrev pub Splits : List Row → Code → Code → Type 0
Splits rows p q = (first_of_rows rows ≡ p) × (second_of_rows rows ≡ q)

before-some : (r : Row) (x : Option (List Row)) (rows : List Row) → before r x ≡ Some rows → (rest : List Row) × (x ≡ Some rest) × (r ∷ rest ≡ rows)
before-some r None rows e = absurd (cc)
before-some r (Some rest) rows e = (rest, refl, some-same (r ∷ rest) rows e)

paired-some : (r : Option Row) (x : Option (List Row)) (rows : List Row) → paired r x ≡ Some rows → (s : Row) × (rest : List Row) × (r ≡ Some s) × (x ≡ Some rest) × (s ∷ rest ≡ rows)
paired-some None x rows e = absurd (cc)
paired-some (Some s) x rows e = let b = before-some s x rows e in (s, b.0, refl, b.1, b.2)

second-right : (reads : Reads) (ws : Writes) (x : Option (List Row)) (p q : Code) → ((rows : List Row) → x ≡ Some rows → Splits rows p q) → (rows : List Row) → before (SecondSilent reads ws) x ≡ Some rows → Splits rows p (Silent reads ws ∷ q)
second-right reads ws x p q h rows e =
    let b = before-some (SecondSilent reads ws) x rows e in
    let k = h b.0 b.1 in
    subst (λ u. Splits u p (Silent reads ws ∷ q)) b.2 (k.0, ap (λ c. Silent reads ws ∷ c) k.1)

rest-right : (q : Code) (rows : List Row) → rest_rows q ≡ Some rows → Splits rows [] q
rest-right [] rows e = subst (λ u. Splits u [] []) (some-same [] rows e) (refl, refl)
rest-right (Silent reads ws ∷ q) rows e = second-right reads ws (rest_rows q) [] q (rest-right q) rows e
rest-right (BlockStart n ∷ q) rows e = absurd (cc)
rest-right (BlockEnd falls exits ∷ q) rows e = absurd (cc)
rest-right (Counted r reads ws target exits ∷ q) rows e = absurd (cc)

module _ (i : Item) (next : Code → Option (List Row)) (p : Code) (right : (q : Code) (rows : List Row) → next q ≡ Some rows → Splits rows p q) where
  at-partner : (j : Item) (q : Code) (rows : List Row) → paired (pair_item i j) (next q) ≡ Some rows → Splits rows (i ∷ p) (j ∷ q)
  at-partner j q rows e =
      let b = paired-some (pair_item i j) (next q) rows e in
      let r = item-right i j b.0 b.2 b.1 in
      let k = right q b.1 b.3 in
      subst (λ u. Splits u (i ∷ p) (j ∷ q)) b.4 (r.0 ∙ ap (λ c. i ∷ c) k.0, r.1 ∙ ap (λ c. j ∷ c) k.1)

  meet-right : (q : Code) (rows : List Row) → meet i next q ≡ Some rows → Splits rows (i ∷ p) q
  meet-right [] rows e = absurd (cc)
  meet-right (Silent reads ws ∷ q) rows e = second-right reads ws (meet i next q) (i ∷ p) q (meet-right q) rows e
  meet-right (BlockStart n ∷ q) rows e = at-partner (BlockStart n) q rows e
  meet-right (BlockEnd falls exits ∷ q) rows e = at-partner (BlockEnd falls exits) q rows e
  meet-right (Counted r reads ws target exits ∷ q) rows e = at-partner (Counted r reads ws target exits) q rows e

pub pairing-right : (p q : Code) (rows : List Row) → pairing p q ≡ Some rows → Splits rows p q
pairing-right [] q rows e = rest-right q rows e
pairing-right (Silent reads ws ∷ p) q rows e =
    let b = before-some (FirstSilent reads ws) (pairing p q) rows e in
    let k = pairing-right p q b.0 b.1 in
    subst (λ u. Splits u (Silent reads ws ∷ p) q) b.2 (ap (λ c. Silent reads ws ∷ c) k.0, k.1)
pairing-right (BlockStart n ∷ p) q rows e = meet-right (BlockStart n) (pairing p) p (pairing-right p) q rows e
pairing-right (BlockEnd falls exits ∷ p) q rows e = meet-right (BlockEnd falls exits) (pairing p) p (pairing-right p) q rows e
pairing-right (Counted r reads ws target exits ∷ p) q rows e = meet-right (Counted r reads ws target exits) (pairing p) p (pairing-right p) q rows e
