-- Values, lists of values and memory that are at least as defined.
use Rattle.std.proofs.Common.{◌≡◌, ◌+◌, ◌*◌, ◌/◌, ◌%◌, ◌^◌, ◌∷◌, ◌++◌, ◌∙◌, ℕ, zero, suc, Bool, true, false, cond, eqb, List, Some, None, refl, sym, ap, subst, []}
use Rattle.meaning.specs.Environment.{Environment, Value}
use Rattle.meaning.specs.Perform.{Outside, all_lanes, applied, byte_at, combined, given, high_bytes, joined, lanes_of, loaded, loaded_bytes, low_byte, operand, stored, stored_bytes}
use Rattle.meaning.specs.Refines.{AllAtLeast, AtLeast}
use Rattle.meaning.specs.State.{nth}
use Rattle.laws.specs.Monotone.{ByPlace, BytesAtLeast, OperandsAtLeast, OutsideAtLeast}

pub value-refl : (v : Value) → AtLeast v v
value-refl None = tt
value-refl (Some n) = refl

pub value-same : (v u : Value) → v ≡ u → AtLeast v u
value-same v u e = subst (λ x. AtLeast v x) e (value-refl v)

pub cond-least : (b : Bool) (v u v' u' : Value) → AtLeast v v' → AtLeast u u' → AtLeast (cond b v u) (cond b v' u')
cond-least true v u v' u' h k = h
cond-least false v u v' u' h k = k

pub applied-least : (a a' : Value) (f : ℕ → ℕ) → AtLeast a a' → AtLeast (applied a f) (applied a' f)
applied-least None a' f h = tt
applied-least (Some x) a' f h = ap (λ u. applied u f) h

pub both-least : (a b a' b' : Value) (f : ℕ → ℕ → ℕ) → AtLeast a a' → AtLeast b b' → AtLeast (combined a b f) (combined a' b' f)
both-least None b a' b' f h k = tt
both-least (Some x) None a' b' f h k = tt
both-least (Some x) (Some y) a' b' f h k = ap (λ u. combined u b' f) h ∙ ap (λ u. combined (Some x) u f) k

pub joined-least : (ws : List ℕ) (vs us : List Value) → AllAtLeast vs us → AtLeast (joined ws vs) (joined ws us)
joined-least [] vs us h = refl
joined-least (w ∷ ws) [] us h = tt
joined-least (w ∷ ws) (None ∷ vs) us h = tt
joined-least (w ∷ ws) (Some n ∷ vs) [] h = absurd h
joined-least (w ∷ ws) (Some n ∷ vs) (u ∷ us) h =
    subst (λ x. AtLeast (joined (w ∷ ws) (Some n ∷ vs)) (joined (w ∷ ws) (x ∷ us))) (sym h.0) (more (joined ws vs) (joined ws us) (joined-least ws vs us h.1))
  where
    more : (a b : Value) → AtLeast a b → AtLeast (elim a [ None ↦ None | Some m ↦ Some (n + 2 ^ w * m) ]) (elim b [ None ↦ None | Some m ↦ Some (n + 2 ^ w * m) ])
    more None b k = tt
    more (Some m) b k = ap (λ x. elim x [ None ↦ None | Some l ↦ Some (n + 2 ^ w * l) ]) k

pub nth-least : (vs us : List Value) → AllAtLeast vs us → ByPlace vs us
nth-least [] [] h i = tt
nth-least [] (u ∷ us) h i = absurd h
nth-least (v ∷ vs) [] h i = absurd h
nth-least (v ∷ vs) (u ∷ us) h zero = h.0
nth-least (v ∷ vs) (u ∷ us) h (suc i) = nth-least vs us h.1 i

pub same-places : (vs us : List Value) → vs ≡ us → ByPlace vs us
same-places vs us e i = value-same (nth vs i) (nth us i) (ap (λ xs. nth xs i) e)

pub given-least : (ws : List ℕ) (a b : Value) → AtLeast a b → ByPlace (given ws a) (given ws b)
given-least ws None b h = λ i. tt
given-least ws (Some n) b h = same-places (given ws (Some n)) (given ws b) (ap (given ws) (sym h))

pub operand-least : (ws : List (List ℕ)) (vs us : List (List Value)) (n : ℕ) → OperandsAtLeast vs us → AtLeast (operand ws vs n) (operand ws us n)
operand-least [] vs us n h = tt
operand-least (w ∷ ws) [] us n h = tt
operand-least (w ∷ ws) (v ∷ vs) [] n h = absurd h
operand-least (w ∷ ws) (v ∷ vs) (u ∷ us) zero h = joined-least w v u h.0
operand-least (w ∷ ws) (v ∷ vs) (u ∷ us) (suc n) h = operand-least ws vs us n h.1

pub lanes-least : (vs us : List (List Value)) (n : ℕ) → OperandsAtLeast vs us → AllAtLeast (lanes_of vs n) (lanes_of us n)
lanes-least [] [] n h = tt
lanes-least [] (u ∷ us) n h = absurd h
lanes-least (v ∷ vs) [] n h = absurd h
lanes-least (v ∷ vs) (u ∷ us) zero h = h.0
lanes-least (v ∷ vs) (u ∷ us) (suc n) h = lanes-least vs us n h.1

pub append-least : (vs us vs' us' : List Value) → AllAtLeast vs us → AllAtLeast vs' us' → AllAtLeast (vs ++ vs') (us ++ us')
append-least [] [] vs' us' h k = k
append-least [] (u ∷ us) vs' us' h k = absurd h
append-least (v ∷ vs) [] vs' us' h k = absurd h
append-least (v ∷ vs) (u ∷ us) vs' us' h k = (h.0, append-least vs us vs' us' h.1 k)

pub all-lanes-least : (vs us : List (List Value)) → OperandsAtLeast vs us → AllAtLeast (all_lanes vs) (all_lanes us)
all-lanes-least [] [] h = tt
all-lanes-least [] (u ∷ us) h = absurd h
all-lanes-least (v ∷ vs) [] h = absurd h
all-lanes-least (v ∷ vs) (u ∷ us) h = append-least v u (all_lanes vs) (all_lanes us) h.0 (all-lanes-least vs us h.1)

pub byte-least : (env : Environment) (bs cs : List (ℕ × Value)) (a : ℕ) → BytesAtLeast bs cs → AtLeast (byte_at env bs a) (byte_at env cs a)
byte-least env [] [] a h = refl
byte-least env [] (c ∷ cs) a h = absurd h
byte-least env (b ∷ bs) [] a h = absurd h
byte-least env (b ∷ bs) (c ∷ cs) a h =
    subst (λ x. AtLeast (byte_at env (b ∷ bs) a) (cond (eqb x a) c.1 (byte_at env cs a))) h.0 (cond-least (eqb b.0 a) b.1 (byte_at env bs a) c.1 (byte_at env cs a) h.1 (byte-least env bs cs a h.2))

module _ (env : Environment) (o o' : Outside) (h : OutsideAtLeast o o') where
  pub loaded-bytes-least : (w a n : ℕ) → AtLeast (loaded_bytes env o w a n) (loaded_bytes env o' w a n)
  loaded-bytes-least w a zero = refl
  loaded-bytes-least w a (suc n) =
      both-least (byte_at env o.bytes (a % 2 ^ w)) (loaded_bytes env o w (a + 1) n) (byte_at env o'.bytes (a % 2 ^ w)) (loaded_bytes env o' w (a + 1) n) (λ b m. b + 256 * m) (byte-least env o.bytes o'.bytes (a % 2 ^ w) h.bytes) (loaded-bytes-least w (a + 1) n)

  pub loaded-least : (w a : ℕ) (ls : List ℕ) → AllAtLeast (loaded env o w a ls) (loaded env o' w a ls)
  loaded-least w a [] = tt
  loaded-least w a (l ∷ ls) = (loaded-bytes-least w a (l / 8), loaded-least w (a + l / 8) ls)

low-least : (v u : Value) → AtLeast v u → AtLeast (low_byte v) (low_byte u)
low-least None u h = tt
low-least (Some n) u h = ap low_byte h

high-least : (v u : Value) → AtLeast v u → AtLeast (high_bytes v) (high_bytes u)
high-least None u h = tt
high-least (Some n) u h = ap high_bytes h

pub stored-bytes-least : (w a : ℕ) (v u : Value) (n : ℕ) (bs cs : List (ℕ × Value)) → AtLeast v u → BytesAtLeast bs cs → BytesAtLeast (stored_bytes w a v n bs) (stored_bytes w a u n cs)
stored-bytes-least w a v u zero bs cs h k = k
stored-bytes-least w a v u (suc n) bs cs h k =
    stored-bytes-least w (a + 1) (high_bytes v) (high_bytes u) n ((a % 2 ^ w, low_byte v) ∷ bs) ((a % 2 ^ w, low_byte u) ∷ cs) (high-least v u h) (refl, low-least v u h, k)

pub stored-least : (w a : ℕ) (ls : List ℕ) (vs us : List Value) (bs cs : List (ℕ × Value)) → AllAtLeast vs us → BytesAtLeast bs cs → BytesAtLeast (stored w a ls vs bs) (stored w a ls us cs)
stored-least w a [] vs us bs cs h k = k
stored-least w a (l ∷ ls) [] [] bs cs h k = k
stored-least w a (l ∷ ls) [] (u ∷ us) bs cs h k = absurd h
stored-least w a (l ∷ ls) (v ∷ vs) [] bs cs h k = absurd h
stored-least w a (l ∷ ls) (v ∷ vs) (u ∷ us) bs cs h k =
    stored-least w (a + l / 8) ls vs us (stored_bytes w a v (l / 8) bs) (stored_bytes w a u (l / 8) cs) h.1 (stored-bytes-least w a v u (l / 8) bs cs h.0 k)
