-- The instructions that touch a range, with where they stand.
use Rattle.std.proofs.Common.{subst, ◌≡◌, ◌∙◌, ℕ, zero, suc, ◌+◌, ◌<◌, ◌≤◌, List, [], ◌∷◌, ◌++◌, Bool, true, false, cond, refl, sym, ap, length, take, get_or, arith, map, Option, None, Some}
use Rattle.std.specs.Prelude.{filter, flat_map, nat_eq, slice_get, option_map, fold}
use Rattle.std.specs.List.{list_all}
use Rattle.std.proofs.lemmas.Bool.{and_parts}
use Rattle.std.proofs.lemmas.List.Elements.{filter-append}
use Rattle.std.proofs.lemmas.List.{map-append, take_more, take_all}
use Rattle.std.proofs.lemmas.List.Sums.{fold-append}
use Rattle.target_base.specs.declared.types.Target.{Target}
use Rattle.mir_func.specs.declared.func.Instr.{Instr}
use Rattle.mir_func.specs.declared.func.Block.{Block}
use Rattle.mir_func.specs.Value.{Function}
use Rattle.mir_func.specs.Edits.{block_place}
use Rattle.mir_meaning.specs.Points.{touches}
use Rattle.live_lanes.specs.declared.table.Table.{Table}
use Rattle.live_lanes.specs.Ordered.{place_of}
use Rattle.live_lanes.specs.Tells.{touching_ids}
use Rattle.split_choose.specs.declared.places.TouchedPlace.{TouchedPlace}
use Rattle.split_choose.specs.Seen.{ends_in_terminators, FindsPlaces}
use Rattle.split_choose.specs.Offers.{View, touched_places}
use Rattle.split_choose.specs.Places.{placed, joined, Site, IsSite, AreSites, site_id, sites_from, places_from, place_at}
use Rattle.split_choose.proofs.Placed.{blocks-join, blocks-placed}

-- one more of them

pub at-index : {X : Type 0} (xs : List X) (k : ℕ) → k < length xs → (x : X) × (slice_get xs k ≡ Some x) × (get_or xs k x ≡ x)
at-index [] k h = absurd (omega arith)
at-index (x ∷ xs) zero h = (x, refl, refl)
at-index (x ∷ xs) (suc k) h = at-index xs k (omega arith)

pub site-at : (t : Target) (bs : List Block) (ss : List Site) (k : ℕ) (s : Site) → AreSites t bs ss → slice_get ss k ≡ Some s → IsSite t bs s
site-at t bs [] k s a e = cc
site-at t bs (r ∷ ss) zero s a e = let q : r ≡ s = cc in subst (IsSite t bs) q a.0
site-at t bs (r ∷ ss) (suc k) s a e = site-at t bs ss k s a.1 e

pub get-map : {X : Type 0} (f : X → ℕ) (xs : List X) (k d : ℕ) (e : X) → k < length xs → get_or (map f xs) k d ≡ f (get_or xs k e)
get-map f [] k d e h = absurd (omega arith)
get-map f (x ∷ xs) zero d e h = refl
get-map f (x ∷ xs) (suc k) d e h = get-map f xs k d e (omega arith)

pub length-map : {X Y : Type 0} (f : X → Y) (xs : List X) → length (map f xs) ≡ length xs
length-map f [] = refl
length-map f (x ∷ xs) = ap suc (length-map f xs)

pub one-more : (t : Target) (bs : List Block) (ss : List Site) (ids : List ℕ) (k id : ℕ) (old new : List TouchedPlace) → AreSites t bs ss → map site_id ss ≡ ids → k < length ids → id ≡ get_or ids k 0
    → old ≡ fold joined [] (map (place_at t) (take k ss)) → ((s : Site) → IsSite t bs s → site_id s ≡ id → new ≡ joined old (place_at t s))
    → new ≡ fold joined [] (map (place_at t) (take (k + 1) ss))
one-more t bs ss ids k id old new sites same h at was step =
    let long : length ss ≡ length ids = sym (length-map site_id ss) ∙ ap length same in
    let within : k < length ss = omega arith in
    let s = at-index ss k within in
    let named : site_id s.0 ≡ id = ap site_id (sym s.2) ∙ (sym (get-map site_id ss k 0 s.0 within) ∙ (ap (λ is. get_or is k 0) same ∙ sym at)) in
    let more : take (k + 1) ss ≡ take k ss ++ s.0 ∷ [] = take_more ss k s.0 within ∙ ap (λ r. take k ss ++ r ∷ []) s.2 in
    step s.0 (site-at t bs ss k s.0 sites s.1) named
    ∙ (ap (λ m. joined m (place_at t s.0)) was
    ∙ sym (ap (λ rs. fold joined [] (map (place_at t) rs)) more
    ∙ (ap (fold joined []) (map-append (place_at t) (take k ss) (s.0 ∷ [])) ∙ fold-append joined [] (map (place_at t) (take k ss)) (place_at t s.0 ∷ []))))

-- those of all blocks

module _ (t : Target) (v : ℕ) where
  sites-append : (bs : List Block) (rs ss : List Site) → AreSites t bs rs → AreSites t bs ss → AreSites t bs (rs ++ ss)
  sites-append bs [] ss a b = b
  sites-append bs (r ∷ rs) ss a b = (a.0, sites-append bs rs ss a.1 b)

  block-sites : (bs : List Block) (k : ℕ) (b : Block) → slice_get bs k ≡ Some b → ends_in_terminators t b.instrs ≡ true → (o : ℕ) (is : List Instr) → ((j : ℕ) (i : Instr) → slice_get is j ≡ Some i → slice_get b.instrs (o + j) ≡ Some i)
      → AreSites t bs (map (λ i. record { position = k; among = b.instrs; instr = i }) (filter (touches v) is))
  block-sites bs k b at ended o [] within = tt
  block-sites bs k b at ended o (i ∷ is) within =
      go (block-sites bs k b at ended (suc o) is (λ j h e. ap (slice_get b.instrs) (shift j) ∙ within (suc j) h e)) (touches v i) refl
    where
      shift : (j : ℕ) → suc o + j ≡ o + suc j
      shift j = omega arith

      here : slice_get b.instrs o ≡ Some i
      here = let e : o ≡ o + 0 = omega arith in ap (slice_get b.instrs) e ∙ within 0 i refl

      go : AreSites t bs (map (λ j. record { position = k; among = b.instrs; instr = j }) (filter (touches v) is)) → (c : Bool) → touches v i ≡ c
          → AreSites t bs (map (λ j. record { position = k; among = b.instrs; instr = j }) (filter (touches v) (i ∷ is)))
      go ih true e = rw e ((record { block = b; place = o; found = at; same = refl; stands = here; ended = ended }), ih)
      go ih false e = rw e ih

  pub all-sites : (bs cs : List Block) (k : ℕ) → list_all (λ b. ends_in_terminators t b.instrs) cs ≡ true → ((j : ℕ) (b : Block) → slice_get cs j ≡ Some b → slice_get bs (k + j) ≡ Some b) → AreSites t bs (sites_from v k cs)
  all-sites bs [] k ended at = tt
  all-sites bs (b ∷ cs) k ended at =
      let ends = and_parts (ends_in_terminators t b.instrs) (list_all (λ (c : Block). ends_in_terminators t c.instrs) cs) ended in
      let e : k ≡ k + 0 = omega arith in
      let zero-on : (j : ℕ) (i : Instr) → slice_get b.instrs j ≡ Some i → slice_get b.instrs (0 + j) ≡ Some i = λ j i h. (let z : 0 + j ≡ j = omega arith in ap (slice_get b.instrs) z ∙ h) in
      sites-append bs (map (λ i. record { position = k; among = b.instrs; instr = i }) (filter (touches v) b.instrs)) (sites_from v (suc k) cs)
      (block-sites bs k b (ap (slice_get bs) e ∙ at 0 b refl) ends.0 0 b.instrs zero-on)
      (all-sites bs cs (suc k) ends.1 (λ j c h. (let s : suc k + j ≡ k + suc j = omega arith in ap (slice_get bs) s ∙ at (suc j) c h)))

  ids-in : (k : ℕ) (is js : List Instr) → map site_id (map (λ i. record { position = k; among = is; instr = i }) js) ≡ map (λ i. i.id) js
  ids-in k is [] = refl
  ids-in k is (j ∷ js) = ap (λ ns. j.id ∷ ns) (ids-in k is js)

  pub site-ids : (k : ℕ) (bs : List Block) → map site_id (sites_from v k bs) ≡ map (λ i. i.id) (filter (touches v) (flat_map (λ b. b.instrs) bs))
  site-ids k [] = refl
  site-ids k (b ∷ bs) =
      map-append site_id (map (λ i. record { position = k; among = b.instrs; instr = i }) (filter (touches v) b.instrs)) (sites_from v (suc k) bs)
      ∙ (ap (λ ns. ns ++ map site_id (sites_from v (suc k) bs)) (ids-in k b.instrs (filter (touches v) b.instrs))
      ∙ (ap (λ ns. map (λ (i : Instr). i.id) (filter (touches v) b.instrs) ++ ns) (site-ids (suc k) bs)
      ∙ sym (ap (map (λ (i : Instr). i.id)) (filter-append (touches v) b.instrs (flat_map (λ (c : Block). c.instrs) bs)) ∙ map-append (λ (i : Instr). i.id) (filter (touches v) b.instrs) (filter (touches v) (flat_map (λ (c : Block). c.instrs) bs)))))

-- a block's position is the place of its number

pub place-number : (n k : ℕ) (bs : List Block) → place_of n bs ≡ Some k → block_place n bs ≡ k
place-number n k [] e = cc
place-number n k (b ∷ bs) e = go (nat_eq b.number n) (place_of n bs) refl refl (λ m h. place-number n m bs h)
  where
    go : (c : Bool) (o : Option ℕ) → nat_eq b.number n ≡ c → place_of n bs ≡ o → ((m : ℕ) → place_of n bs ≡ Some m → block_place n bs ≡ m) → block_place n (b ∷ bs) ≡ k
    go true o f p ih = let q : Some 0 ≡ Some k = sym (ap (λ d. cond d (Some 0) (option_map (λ x. suc x) (place_of n bs))) f) ∙ e in let z : 0 ≡ k = cc in rw f z
    go false None f p ih = let q : None ≡ Some k = sym (ap (option_map (λ x. suc x)) p) ∙ (sym (ap (λ d. cond d (Some 0) (option_map (λ x. suc x) (place_of n bs))) f) ∙ e) in cc
    go false (Some m) f p ih =
        let q : Some (suc m) ≡ Some k = sym (ap (option_map (λ x. suc x)) p) ∙ (sym (ap (λ d. cond d (Some 0) (option_map (λ x. suc x) (place_of n bs))) f) ∙ e) in
        let z : suc m ≡ k = cc in
        let w : block_place n bs ≡ m = ih m p in
        rw f (omega arith)

pub places-are : (t : Target) (f : Function) (x : Table) (v : ℕ) (view : View) → FindsPlaces t f x v → places_from t v 0 f.blocks ≡ map (placed f.blocks) (touched_places t f v view)
places-are t f x v view finds = blocks-placed t f v view f.blocks 0 f.blocks (λ j b e. place-number b.number j f.blocks (finds.placed j b e) ∙ omega arith)

pub all-places : (t : Target) (f : Function) (x : Table) (v : ℕ) (view : View) (ids : List ℕ) (n : ℕ) (ps : List TouchedPlace) → FindsPlaces t f x v → ids ≡ touching_ids f v → length ids ≤ n
    → ((ss : List Site) → AreSites t f.blocks ss → map site_id ss ≡ ids → ps ≡ fold joined [] (map (place_at t) (take n ss))) → ps ≡ map (placed f.blocks) (touched_places t f v view)
all-places t f x v view ids n ps finds same h made =
    let ss = sites_from v 0 f.blocks in
    let named : map site_id ss ≡ ids = site-ids t v 0 f.blocks ∙ sym same in
    let long : length ss ≡ length ids = sym (length-map site_id ss) ∙ ap length named in
    let all : take n ss ≡ ss = take_all n ss (omega arith) in
    made ss (all-sites t v f.blocks f.blocks 0 finds.ended (λ j b e. (let z : 0 + j ≡ j = omega arith in ap (slice_get f.blocks) z ∙ e))) named
    ∙ (ap (λ rs. fold joined [] (map (place_at t) rs)) all
    ∙ (blocks-join t v 0 f.blocks [] finds.ended refl
    ∙ places-are t f x v view finds))
