-- What lent octets hold, and the octets of a thing: a part of them, numbers of four octets, flags, and things of equally many octets one behind the other.
use Rattle.std.specs.Prelude.{ℕ, zero, suc, ◌+◌, ◌-◌, ◌*◌, ◌/◌, ◌%◌, Bool, true, false, not, List, [], ◌∷◌, ◌++◌, eqb, take, drop, get_or, replicate}

-- n octets from a place on: what `&s[at..at + n]` lends
abbrev pub part : ℕ → ℕ → List ℕ → List ℕ
part at n s = take n (drop at s)

-- that part replaced by other n octets: what `&mut s[at..at + n]` leaves
abbrev pub replaced : ℕ → ℕ → List ℕ → List ℕ → List ℕ
replaced at n s ys = take at s ++ (ys ++ drop n (drop at s))

-- n octets that are all 0
abbrev pub zeros : ℕ → List ℕ
zeros n = replicate n 0

-- the first n things of w octets each, with another one put in behind so many of them: those behind it lie one thing further on, and what
-- lies behind the n + 1 stays
unfoldable pub inserted_at : ℕ → ℕ → ℕ → List ℕ → List ℕ → List ℕ
inserted_at w n at x s = take (at * w) s ++ (x ++ (part (at * w) ((n - at) * w) s ++ drop ((n + 1) * w) s))

-- with the one behind so many of them taken out: those behind it lie one thing further up, the place of the last of the n is 0, and what lies behind stays
unfoldable pub removed_at : ℕ → ℕ → ℕ → List ℕ → List ℕ
removed_at w n at s = take (at * w) s ++ (part ((at + 1) * w) ((n - (at + 1)) * w) s ++ (zeros w ++ drop (n * w) s))

-- a number of four octets, the low one first
unfoldable pub word_in : List ℕ → ℕ
word_in s = get_or s 0 0 + 256 * get_or s 1 0 + 65536 * get_or s 2 0 + 16777216 * get_or s 3 0

unfoldable pub word_octets : ℕ → List ℕ
word_octets v = v % 256 ∷ v / 256 % 256 ∷ v / 65536 % 256 ∷ v / 16777216 % 256 ∷ []

-- a flag is set unless its octet is 0
unfoldable pub flag_in : List ℕ → Bool
flag_in s = not (eqb (get_or s 0 0) 0)

unfoldable pub flag_octets : Bool → List ℕ
flag_octets true = 1 ∷ []
flag_octets false = 0 ∷ []

-- a flag with three octets behind it that are not used
unfoldable pub mark_octets : Bool → List ℕ
mark_octets x = flag_octets x ++ (0 ∷ 0 ∷ 0 ∷ [])

-- the first k of things of n octets each
unfoldable pub many : {A : Type 0} → (List ℕ → A) → ℕ → ℕ → List ℕ → List A
many f n zero s = []
many f n (suc k) s = f (take n s) ∷ many f n k (drop n s)

unfoldable pub many_octets : {A : Type 0} → (A → List ℕ) → List A → List ℕ
many_octets f [] = []
many_octets f (x ∷ l) = f x ++ many_octets f l

-- a property of each
abbrev pub Each : {A : Type 0} → (A → Type 0) → List A → Type 0
Each P [] = Unit {0}
Each P (x ∷ l) = P x × Each P l
