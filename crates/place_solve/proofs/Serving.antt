-- What the search answers at own places.
use Rattle.std.proofs.Common.{◌≡◌, ◌∙◌, ◌⊎◌, ◌+◌, ◌<◌, ◌≤◌, inl, inr, subst, get_or, ℕ, Bool, true, false, List, [], ◌∷◌, Option, Some, None, refl, sym, ap, map, length, arith, Bor}
use Rattle.std.proofs.lemmas.Bool.{lt-ltb, cases_lt}
use Rattle.std.proofs.lemmas.Option.{slice_get_read, slice_get_within}
use Rattle.mir_func.specs.declared.func.Block.{Block}
use Rattle.mir_func.specs.declared.func.Place.{Place}
use Rattle.std.specs.Prelude.{◌&&◌, cond, is_some, nat_lt, option_map, slice_get}
use Rattle.target_base.specs.declared.types.Reg.{Reg}
use Rattle.target_base.specs.declared.types.Target.{Target}
use Rattle.target_base.specs.Numbers.{unit_number}
use Rattle.target_base.specs.Rules.{is_copy}
use Rattle.mir_func.specs.declared.func.Instr.{Instr}
use Rattle.mir_func.specs.Value.{Function}
use Rattle.mir_func.specs.Binding.{does}
use Rattle.mir_meaning.specs.Places.{Variable as Need, solutions}
use Rattle.live_lanes.specs.declared.table.Table.{Table}
use Rattle.place_solve.specs.declared.position.PlacePosition.{PlacePosition}
use Rattle.place_solve.specs.declared.position.PlacePosition.TheVariants as arounds
use Rattle.place_solve.specs.Positions.{entry_of, entry_tests, exit_of, exit_tests, takes_part}
use Rattle.place_solve.specs.declared.variables.Variable.{Variable}
use Rattle.place_solve.specs.Choice.{first, need_of}
use Rattle.place_solve.specs.Own.{own_instrs, place_variables}
use Rattle.place_solve.specs.Told.{around_at, copies_solved, is_solved, AllServe, BlocksServe, IsFirstLost, IsLost, OwnTold, PlacesTold}

-- there is a first just where there is one
pub first_there : {X Y : Type 0} (q : Option Y) (g : Y → X) (xs : List X) → option_map g q ≡ first xs → is_some q ≡ nat_lt 0 (length xs)
first_there None g [] e = refl
first_there None g (x ∷ xs) e = absurd (cc)
first_there (Some y) g [] e = absurd (cc)
first_there (Some y) g (x ∷ xs) e = sym (lt-ltb 0 (length (x ∷ xs)) (omega arith))

-- by instructions that make one place, whose borrow doesn't count
by_instrs : Target → Table → List Need → List Instr → Bool
by_instrs t x vs is = nat_lt 0 (length (solutions t (λ n. takes_part t n && entry_tests t x (unit_number n) is) (λ n. takes_part t n && exit_tests t x (unit_number n) is) vs))

same_solved : (t : Target) (x : Table) (vs : List Need) (w v : Bor (List Instr)) (is : List Instr) → w.now ≡ v.now → is_solved t x (around_at t w is) vs ≡ is_solved t x (around_at t v is) vs
unfolding by_instrs
same_solved t x vs w v [] e = ap (by_instrs t x vs) e
same_solved t x vs w v (i ∷ is) e = go (does is_copy t i)
  where
    go : (b : Bool) → is_solved t x (cond b (arounds.Before i.id) (arounds.Instrs w)) vs ≡ is_solved t x (cond b (arounds.Before i.id) (arounds.Instrs v)) vs
    go true = refl
    go false = ap (by_instrs t x vs) e

pub own_served : {Y : Type 0} (t : Target) (f : Function) (x : Table) (is : List Instr) (j : ℕ) (w : Bor (List Instr)) (a : PlacePosition) (vs : List Need) (q : Option Y) (g : Y → List Reg) (answer : Bool) → w.now ≡ own_instrs t is j → a ≡ around_at t w w.now → vs ≡ place_variables t f w.now → option_map g q ≡ first (solutions t (entry_of t x a) (exit_of t x a) vs) → answer ≡ is_some q → OwnTold t f x is j answer
own_served t f x is j w a vs q g answer place around variables told some v same =
    let e : w.now ≡ v.now = place ∙ sym same in
    some ∙ first_there q g (solutions t (entry_of t x a) (exit_of t x a) vs) told
    ∙ ap (λ b. is_solved t x b vs) around ∙ ap (is_solved t x (around_at t w w.now)) variables
    ∙ same_solved t x (place_variables t f w.now) w v w.now e
    ∙ ap (λ us. is_solved t x (around_at t v us) (place_variables t f us)) e

pub own_read : {Y : Type 0} (t t2 : Target) (f f2 : Function) (x : Table) (is : List Instr) (j : ℕ) (w : Bor (List Instr)) (a : PlacePosition) (ws items : List Variable) (q : Option Y) (g : Y → List Reg) (answer : Bool) → t2 ≡ t → f2 ≡ f → w.now ≡ own_instrs t2 is j → a ≡ around_at t2 w w.now → map need_of items ≡ place_variables t2 f2 w.now → ws ≡ items → option_map g q ≡ first (solutions t (entry_of t x a) (exit_of t x a) (map need_of ws)) → answer ≡ is_some q → OwnTold t f x is j answer
own_read t t2 f f2 x is j w a ws items q g answer et ef place around variables slice told some =
    own_served t f x is j w a (map need_of ws) q g answer
    (place ∙ ap (λ s. own_instrs s is j) et)
    (around ∙ ap (λ s. around_at s w w.now) et)
    (ap (map need_of) slice ∙ variables ∙ ap (λ s. place_variables s f2 w.now) et ∙ ap (λ h. place_variables t h w.now) ef)
    told some

-- whether each place of an instruction admits

pub places_past : (t : Target) (f : Function) (x : Table) (is : List Instr) (j : ℕ) (answer : Bool) → length is ≤ j → PlacesTold t f x is j answer
places_past t f x is j answer h w i place e = absurd (let l = slice_get_within is j i e in omega (arith, h, l))

pub places_lost : (t : Target) (f : Function) (x : Table) (is : List Instr) (j : ℕ) (own : Bool) → own ≡ false → OwnTold t f x is j own → PlacesTold t f x is j false
places_lost t f x is j own fails told w i place e = ap (λ b. b && copies_solved t f x i) (sym fails ∙ told w place)

pub places_copied : (t : Target) (f : Function) (x : Table) (is : List Instr) (j : ℕ) (own answer : Bool) (o : Instr) → own ≡ true → OwnTold t f x is j own → j < length is → o ≡ get_or is j o → answer ≡ copies_solved t f x o → PlacesTold t f x is j answer
places_copied t f x is j own answer o holds told less at copies w i place e =
    let same : o ≡ i = same_instr o i (sym (slice_get_read is (length is) j o refl less at) ∙ e) in
    copies ∙ ap (copies_solved t f x) same ∙ ap (λ b. b && copies_solved t f x i) (sym holds ∙ told w place)
  where
    same_instr : (a b : Instr) → Some a ≡ Some b → a ≡ b
    same_instr a b e = cc

pub serve_more : (t : Target) (f : Function) (x : Table) (is : List Instr) (n : ℕ) (answer : Bool) → answer ≡ true → AllServe t f x is n → PlacesTold t f x is n answer → AllServe t f x is (n + 1)
serve_more t f x is n answer holds old new j h = go (cases_lt j n)
  where
    go : (j < n) ⊎ (n ≤ j) → PlacesTold t f x is j true
    go (inl l) = old j l
    go (inr l) = let e : n ≡ j = omega (arith, h, l) in subst (λ m. PlacesTold t f x is m true) e (subst (PlacesTold t f x is n) holds new)

pub first_lost : (t : Target) (f : Function) (x : Table) (is : List Instr) (n : ℕ) (answer : Bool) → n < length is → answer ≡ false → AllServe t f x is n → PlacesTold t f x is n answer → IsFirstLost t f x is (Some n)
first_lost t f x is n answer less fails old new = (less, subst (PlacesTold t f x is n) fails new, old)

pub blocks_more : (t : Target) (f : Function) (x : Table) (bs : List Block) (n : ℕ) (b : Block) → n < length bs → b ≡ get_or bs n b → BlocksServe t f x bs n → AllServe t f x b.instrs (length b.instrs) → BlocksServe t f x bs (n + 1)
blocks_more t f x bs n b few at old new k c h g = go (cases_lt k n)
  where
    same : (c d : Block) → Some c ≡ Some d → c ≡ d
    same c d e = cc

    go : (k < n) ⊎ (n ≤ k) → AllServe t f x c.instrs (length c.instrs)
    go (inl l) = old k c l g
    go (inr l) =
        let e : k ≡ n = omega (arith, h, l) in
        let z : b ≡ c = same b c (sym (slice_get_read bs (length bs) n b refl few at) ∙ ap (slice_get bs) (sym e) ∙ g) in
        subst (λ d. AllServe t f x d.instrs (length d.instrs)) z new

pub blocks_all : (t : Target) (f : Function) (x : Table) (bs : List Block) (n : ℕ) → length bs ≤ n → BlocksServe t f x bs n → BlocksServe t f x bs (length bs)
blocks_all t f x bs n h all k b l g = all k b (omega (arith, l, h)) g

pub block_lost : (t : Target) (f : Function) (x : Table) (bs : List Block) (n : ℕ) (b : Block) (j : ℕ) (name : Place) → slice_get bs n ≡ Some b → BlocksServe t f x bs n → IsFirstLost t f x b.instrs (Some j) → name.at ≡ j → name.block ≡ b.number → IsLost t f x bs (Some name)
block_lost t f x bs n b j name at old lost place number = record { position = n; block = b; is_block = at; number = sym number; lost = subst (λ (m : ℕ). IsFirstLost t f x b.instrs (Some m)) (sym place) lost; before = old }
