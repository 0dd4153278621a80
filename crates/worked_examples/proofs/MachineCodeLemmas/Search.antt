-- Finds what makes a lane live at a place, and a table of all that is live.
use Rattle.std.proofs.Common.{◌≡◌, ◌∷◌, ℕ, zero, suc, ◌-◌, Bool, true, false, cond, List, Option, Some, None, refl, ap, subst, drop, length, map, filter, is_some, []}
use Rattle.meaning.specs.Code.{Code, Edge, Item, found}
use Rattle.meaning.specs.Lanes.{Reads, Writes, filled, same_lane}
use Rattle.meaning.specs.Live.{Among, Feeds, Live, exits_of, here, in_order, kept, leap, next, phi, read, reads_of, there, writes_of}
use Rattle.meaning.specs.declared.types.Fill.{Fill}
use Rattle.meaning.specs.declared.types.Fill.TheVariants.{Computed, Moved}
use Rattle.meaning.specs.declared.types.Lane.{Lane}
use Rattle.meaning.specs.declared.types.Source.{Source}
use Rattle.meaning.specs.declared.types.Source.TheVariants.{Bits, FromLane, Undef}
use Rattle.laws.proofs.Quiet.{same-true}
use Rattle.laws.specs.Tables.{LiveTable, lists}

abbrev pub then : {A B : Type 0} → Option A → (A → Option B) → Option B
then None f = None
then (Some x) f = f x

abbrev pub first_in : {A : Type 0} {P : Type 0} → ((x : A) → Option P) → List A → Option P
first_in f [] = None
first_in f (x ∷ xs) = elim (f x) [ Some y ↦ Some y | None ↦ first_in f xs ]

abbrev pub first_among : {A : Type 0} {P : Type 0} (xs : List A) → ((x : A) → Among x xs → Option P) → Option P
first_among [] f = None
first_among (x ∷ xs) f = elim (f x here) [ Some y ↦ Some y | None ↦ first_among xs (λ y a. f y (there a)) ]

abbrev pub test : (b : Bool) → Option (b ≡ true)
test true = Some refl
test false = None

abbrev pub negative : (b : Bool) → Option (b ≡ false)
negative true = None
negative false = Some refl

abbrev pub is_lane : (s : Source) (l : Lane) → Option (s ≡ FromLane l)
is_lane (FromLane a) l = then (test (same_lane a l)) (λ e. Some (ap FromLane (same-true a l e)))
is_lane Undef l = None
is_lane (Bits c low width) l = None

abbrev pub comes_from : (f : Fill) (l : Lane) → Option (f ≡ Moved (FromLane l))
comes_from (Moved s) l = then (is_lane s l) (λ e. Some (ap Moved e))
comes_from (Computed n) l = None

-- the lanes that a lane may feed
abbrev pub targets : Lane → Writes → List Lane
targets l ws = l ∷ map (λ w. w.lane) ws

module _ (reserved : Lane → Bool) (code : Code) where
  abbrev pub read_here : (reads : Reads) (l : Lane) {P : Type 0} → ((ss : List Source) → Among ss reads → Among (FromLane l) ss → Option P) → Option P
  read_here reads l f = first_among reads (λ ss a. first_among ss (λ s b. then (is_lane s l) (λ e. f ss a (subst (λ x. Among x ss) e b))))

  abbrev pub found_live : ℕ → (p : Code) (l : Lane) → Option (Live reserved code p l)
  found_live zero p l = None
  found_live (suc n) [] l = None
  found_live (suc n) (i ∷ p) l = then (negative (reserved l)) (λ r.
      elim (by_reading r) [ Some h ↦ Some h | None ↦ elim (by_kept r) [ Some h ↦ Some h | None ↦ elim (by_next r (found_live n p)) [ Some h ↦ Some h | None ↦ by_leap r (λ q a. found_live n q a) ] ] ])
    where
      by_reading : reserved l ≡ false → Option (Live reserved code (i ∷ p) l)
      by_reading r = read_here (reads_of i) l (λ ss a b. Some (read a b r))

      by_kept : reserved l ≡ false → Option (Live reserved code (i ∷ p) l)
      by_kept r = first_in (λ a. then (test (reserved a)) (λ t. then (comes_from (filled (writes_of i) a) l) (λ f. Some (kept t f r)))) (targets l (writes_of i))

      by_next : reserved l ≡ false → ((a : Lane) → Option (Live reserved code p a)) → Option (Live reserved code (i ∷ p) l)
      by_next r go = then (test (in_order i)) (λ o. first_in (λ a. then (comes_from (filled (writes_of i) a) l) (λ f. then (go a) (λ h. Some (next o h f r)))) (targets l (writes_of i)))

      by_leap : reserved l ≡ false → ((q : Code) (a : Lane) → Option (Live reserved code q a)) → Option (Live reserved code (i ∷ p) l)
      by_leap r go = first_among (exits_of i) (λ e x. first_in (λ b. then (comes_from (filled (writes_of i) b) l) (λ f. elim (by_phi e x b f) [ Some h ↦ Some h | None ↦ by_way e x b f ])) (targets l (writes_of i)))
        where
          by_phi : (e : Edge) → Among e (exits_of i) → (b : Lane) → Feeds i l b → Option (Live reserved code (i ∷ p) l)
          by_phi e x b f = first_among e.phis (λ w y. then (comes_from w.fill b) (λ g. Some (phi x y g f r)))

          by_way : (e : Edge) → Among e (exits_of i) → (b : Lane) → Feeds i l b → Option (Live reserved code (i ∷ p) l)
          by_way e x b f = first_in (λ a. then (comes_from (filled e.phis a) b) (λ g. then (go (found e.block code) a) (λ h. Some (leap x h g f r)))) (targets b e.phis)

pub witness : {A : Type 0} (o : Option A) → is_some o ≡ true → A
witness None e = absurd (cc)
witness (Some x) e = x

-- the lanes that are live at the places of a code, by repeated passes from the end

abbrev pub add : Lane → List Lane → List Lane
add l ls = cond (lists ls l) ls (l ∷ ls)

abbrev pub add_source : (Lane → Bool) → Source → List Lane → List Lane
add_source reserved (FromLane l) ls = cond (reserved l) ls (add l ls)
add_source reserved _ ls = ls

abbrev pub add_fill : (Lane → Bool) → Fill → List Lane → List Lane
add_fill reserved (Moved s) ls = add_source reserved s ls
add_fill reserved _ ls = ls

abbrev pub add_sources : (Lane → Bool) → List Source → List Lane → List Lane
add_sources reserved [] ls = ls
add_sources reserved (s ∷ ss) ls = add_source reserved s (add_sources reserved ss ls)

abbrev pub add_reads : (Lane → Bool) → Reads → List Lane → List Lane
add_reads reserved [] ls = ls
add_reads reserved (ss ∷ reads) ls = add_sources reserved ss (add_reads reserved reads ls)

-- what feeds these lanes
abbrev pub add_feeds : (Lane → Bool) → Writes → List Lane → List Lane → List Lane
add_feeds reserved ws [] ls = ls
add_feeds reserved ws (a ∷ as') ls = add_fill reserved (filled ws a) (add_feeds reserved ws as' ls)

abbrev pub reserved_writes : (Lane → Bool) → Writes → List Lane
reserved_writes reserved ws = filter reserved (map (λ w. w.lane) ws)

abbrev pub add_phis : (Lane → Bool) → Writes → List Lane → List Lane
add_phis reserved [] ls = ls
add_phis reserved (w ∷ phis) ls = add_fill reserved w.fill (add_phis reserved phis ls)

abbrev pub into : (Lane → Bool) → (ℕ → List Lane) → List Edge → List Lane
into reserved at [] = []
into reserved at (e ∷ es) = add_feeds reserved e.phis (at e.block) (add_phis reserved e.phis (into reserved at es))

abbrev pub head : List (List Lane) → List Lane
head [] = []
head (ls ∷ rest) = ls

abbrev pub live_before : (Lane → Bool) → (ℕ → List Lane) → Item → List Lane → List Lane
live_before reserved at i after =
    add_reads reserved (reads_of i) (add_feeds reserved (writes_of i) (reserved_writes reserved (writes_of i)) (add_feeds reserved (writes_of i) (cond (in_order i) after []) (add_feeds reserved (writes_of i) (into reserved at (exits_of i)) [])))

abbrev pub rows : (Lane → Bool) → (ℕ → List Lane) → Code → List (List Lane)
rows reserved at [] = []
rows reserved at (i ∷ p) = let rest = rows reserved at p in live_before reserved at i (head rest) ∷ rest

abbrev pub at_length : List (List Lane) → LiveTable
at_length rs n = head (drop (length rs - n) rs)

abbrev pub rounds : ℕ → (Lane → Bool) → Code → List (List Lane)
rounds zero reserved code = []
rounds (suc n) reserved code = let table = at_length (rounds n reserved code) in rows reserved (λ b. table (length (found b code))) code

-- so many passes
abbrev pub table_of : ℕ → (Lane → Bool) → Code → LiveTable
table_of n reserved code = at_length (rounds n reserved code)
