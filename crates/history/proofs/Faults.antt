-- The numbers that a refusal can have. P says which numbers are meant; each part says what P has to hold of, for every check to give such a number: first the ways of making a
-- codec, then addresses and stamps and so keys, then the other fields of Table I and so records. Assumes nothing.
use Prim.Native.Nat.{ℕ, zero, suc, ◌+◌, ◌-◌, ◌≤◌}
use mathlib.Core.Bool.{Bool, true, false, not}
use mathlib.Core.List.{List, [], ◌∷◌}
use lib.Dec.{T, leb, lit≤}
use Rattle.bits.specs.Units.{datagram_limit}
use Rattle.codec.specs.Answer.{pick}
use Rattle.codec.specs.Codec.{Codec, number, flag, nothing, first, within, ◌then_by◌, ◌&◌, present, optional, viewed, shaped, tested, unless, must, ◌closed_by◌}
use Rattle.codec.specs.Characters.{characters, legal_characters}
use Rattle.codec.specs.Lists.{recurs, listed, cells}
use Rattle.optional.specs.Optionals.{optional_number}
use Rattle.text.specs.Texts.{text, no_text}
use Rattle.header.specs.Calendar.{days_in}
use Rattle.header.specs.Zero.{no_address, no_addresses, no_dtg, no_stamp, no_identity, no_requests, no_response, no_reference, no_references, no_block}
use Rattle.header.specs.Table.{maybe, optional_text, unit_name, address, addresses, originator, recipients, room_behind, information, front, day_in, date, time, dtg, stamp, identity, optional_identity, standard_version, format, codes, handling, optional_stamp, optional_dtg, requests, optional_requests, times, compliance, response, optional_response, reference, references, optional_references, block, blocks}
use Rattle.codec.specs.Verdict.{Verdict, plain, fine, in_block, first_of}
use Rattle.header.specs.Order.{Rule, over, in_order}
use Rattle.header.specs.Rules.{rules, setting_of, used_blocks}
use Rattle.header.specs.Sizes.{shares, size_rules, wrong_size, judgement}
use Rattle.header.specs.declared.Blocks.{Blocks}
use Rattle.header.specs.declared.Setting.{Setting}
use Rattle.header.specs.declared.Header.{Header}
use Rattle.writer.specs.Writing.{header_size, fields_fault, record_verdict, fault_of}
use Rattle.order.specs.declared.Key.{Key as DeclaredKey}
use Rattle.order.specs.Values.{key_fault}

module _ (P : ℕ → Type 0) (none-given : P 0) where
  pub first_gives : {f g : ℕ} → P f → P g → P (first f g)
  unfolding first
  first_gives {f = zero} hf hg = hg
  first_gives {f = suc f} hf hg = hf

  pick_gives : (b : Bool) {f g : ℕ} → P f → P g → P (pick b f g)
  pick_gives true hf hg = hf
  pick_gives false hf hg = hg

  -- a test's refusal
  pub test-gives : (b : Bool) (f : ℕ) → P f → P (pick b 0 f)
  test-gives true f hf = none-given
  test-gives false f hf = hf

  -- ---- the first of two refusals, and rules in their order

  pub first-of-gives : (v w : Verdict) → P v.number → P w.number → P (first_of v w).number
  unfolding first_of
  first-of-gives v w = go v.number v.block
    where
      go : (n b : ℕ) → P n → P w.number → P (first_of (in_block b n) w).number
      go zero b hv hw = hw
      go (suc n) b hv hw = hv

  module _ {A : Type 0} where
    over-gives : (r : Rule A) → P r.number → (n : ℕ) (bs : List A) → P (over r n bs).number
    unfolding over
    over-gives r h n [] = none-given
    over-gives r h n (b ∷ bs) = go (r.each b) (over-gives r h (n + 1) bs)
      where
        go : (t : Bool) → P (over r (n + 1) bs).number → P (pick t (over r (n + 1) bs) (in_block n r.number)).number
        go true more = more
        go false more = h

    -- each number is given
    abbrev Numbers : List (Rule A) → Type 0
    Numbers [] = Unit {0}
    Numbers (r ∷ rs) = P r.number × Numbers rs

    order-gives : (rs : List (Rule A)) → Numbers rs → (bs : List A) → P (in_order rs bs).number
    unfolding in_order
    order-gives [] h bs = none-given
    order-gives (r ∷ rs) h bs = first-of-gives (pick r.whole fine (plain r.number)) _ (go r.whole) (first-of-gives (over r 1 bs) (in_order rs bs) (over-gives r h.0 1 bs) (order-gives rs h.1 bs))
      where
        go : (t : Bool) → P (pick t fine (plain r.number)).number
        go true = none-given
        go false = h.0

  -- ---- the ways of making a codec

  -- whatever a codec's check says, P holds of it
  record Gives {A : Type 0} (c : Codec A) : Type 0 where
    gives : (x : A) → P (c.check x)

  number-gives : (w lo hi fault : ℕ) → P fault → Gives (number w lo hi fault)
  unfolding number
  number-gives w lo hi fault hf = record { gives = λ n. test-gives (within lo hi n) fault hf }

  flag-gives : Gives flag
  unfolding flag
  flag-gives = record { gives = λ b. none-given }

  behind-gives : {A B : Type 0} {c : Codec A} {d : A → Codec B} → Gives c → ((x : A) → Gives (d x)) → Gives (c then_by d)
  unfolding ◌then_by◌
  behind-gives mc md = record { gives = λ xy. first_gives (mc.gives xy.0) ((md xy.0).gives xy.1) }

  and-gives : {A B : Type 0} {c : Codec A} {d : Codec B} → Gives c → Gives d → Gives (c & d)
  and-gives mc md = behind-gives mc (λ x. md)

  present-gives : {A : Type 0} (x : A) {c : Codec A} → Gives c → (b : Bool) → Gives (present x c b)
  unfolding present nothing
  present-gives x mc true = mc
  present-gives x mc false = record { gives = λ y. none-given }

  optional-gives : {A : Type 0} (x : A) {c : Codec A} → Gives c → Gives (optional x c)
  optional-gives x mc = behind-gives flag-gives (present-gives x mc)

  viewed-gives : {A B : Type 0} (to : A → B) (from : B → A) (clean : B → B) (fine : B → Bool) (fault : ℕ) → P fault → {c : Codec A} → Gives c → Gives (viewed to from clean fine fault c)
  unfolding viewed
  viewed-gives to from clean fine fault hf mc = record { gives = λ y. pick_gives (fine y) (mc.gives (from y)) hf }

  shaped-gives : {A B : Type 0} (to : A → B) (from : B → A) {c : Codec A} → Gives c → Gives (shaped to from c)
  shaped-gives to from mc = viewed-gives to from _ _ 0 none-given mc

  tested-gives : {A : Type 0} (test : A → Bool) (fault : ℕ) → P fault → {c : Codec A} → Gives c → Gives (tested test fault c)
  unfolding tested
  tested-gives test fault hf mc = record { gives = λ x. first_gives (mc.gives x) (test-gives (test x) fault hf) }

  unless-gives : {A : Type 0} (lacking : Bool) (x : A) (there : A → Bool) (fault : ℕ) → P fault → {c : Codec A} → Gives c → Gives (unless lacking x there fault c)
  unfolding unless
  unless-gives lacking x there fault hf mc = record { gives = λ y. pick_gives lacking (pick_gives (there y) hf none-given) (mc.gives y) }

  must-gives : (b : Bool) (fault : ℕ) → P fault → Gives (must b fault)
  must-gives b fault hf = tested-gives _ fault hf flag-gives

  closed_by-gives : {A : Type 0} {c : Codec A} (fault : ℕ) → P fault → Gives c → Gives (c closed_by fault)
  unfolding ◌closed_by◌
  closed_by-gives fault hf mc = viewed-gives _ _ _ _ 0 none-given (and-gives mc (must-gives false fault hf))

  nothing-gives : {A : Type 0} (x : A) → Gives (nothing x)
  unfolding nothing
  nothing-gives x = record { gives = λ y. none-given }

  cells-gives : {A : Type 0} (x : A) (room most fault : ℕ) → P fault → {c : Codec (List A)} → Gives c → Gives (cells x room most fault c)
  unfolding cells
  cells-gives x room most fault hf mc = viewed-gives _ _ _ _ fault hf mc

  -- ---- texts, addresses, stamps; and a key

  module _ (code-given : P 3) (text-given : P 4) (forms-given : P 6) where
    characters-gives : (n : ℕ) → Gives (characters n)
    unfolding characters
    characters-gives n = record { gives = λ cs. test-gives (legal_characters n cs) 4 text-given }

    may : (w lo hi : ℕ) → Gives (maybe w lo hi)
    unfolding optional_number
    may w lo hi = shaped-gives _ _ (optional-gives 0 (number-gives w lo hi 3 code-given))

    num : (w lo hi : ℕ) → Gives (number w lo hi 3)
    num w lo hi = number-gives w lo hi 3 code-given

    text-gives : (n : ℕ) → Gives (text n)
    unfolding text
    text-gives n = shaped-gives _ _ (cells-gives 0 64 n 4 text-given (tested-gives _ 4 text-given (characters-gives n)))

    optional-text-gives : (n : ℕ) → Gives (optional_text n)
    unfolding optional_text
    optional-text-gives n = shaped-gives _ _ (optional-gives no_text (text-gives n))

    unit-name-gives : (b : Bool) → Gives (unit_name b)
    unfolding unit_name
    unit-name-gives b = shaped-gives _ _ (behind-gives (must-gives b 6 forms-given) (present-gives no_text (text-gives 64)))

    address_gives : Gives address
    unfolding address
    address_gives = shaped-gives _ _ (behind-gives (may 24 0 16777215) (λ u. unit-name-gives (not u.present)))

    dtg-gives : Gives dtg
    unfolding dtg date day_in time
    dtg-gives =
        shaped-gives _ _
        (and-gives (shaped-gives _ _ (behind-gives (num 7 0 99) (λ year. behind-gives (num 4 1 12) (λ month. num 5 1 (days_in year month))))) (shaped-gives _ _ (and-gives (num 5 0 23) (and-gives (num 6 0 59) (num 6 0 59)))))

    stamp-gives : Gives stamp
    unfolding stamp
    stamp-gives = shaped-gives _ _ (and-gives dtg-gives (may 12 0 4095))

    pub key-gives : (k : DeclaredKey) → P (key_fault k)
    key-gives k = first_gives (address_gives.gives k.address) (stamp-gives.gives k.stamp)

    -- ---- the other fields of Table I; and a record

    module _ (version-given : P 2) (count-given : P 5) (security-given : P 7) (rule-given : (n : ℕ) → 41 ≤ n → n ≤ 54 → P n) (long-given : P 12) where
      recurs-gives : (n : ℕ) → Gives (recurs n)
      unfolding recurs
      recurs-gives zero = must-gives false 5 count-given
      recurs-gives (suc n) = flag-gives

      listed-gives : {A : Type 0} (x : A) {c : Codec A} → Gives c → (n : ℕ) → Gives (listed x c n)
      unfolding listed
      listed-gives x mc zero = viewed-gives _ _ _ _ 5 count-given (behind-gives (and-gives (recurs-gives zero) mc) (λ e. present-gives [] (nothing-gives []) e.0))
      listed-gives x mc (suc n) = viewed-gives _ _ _ _ 5 count-given (behind-gives (and-gives (recurs-gives (suc n)) mc) (λ e. present-gives [] (listed-gives x mc n) e.0))

      addresses-gives : (n : ℕ) → Gives (addresses n)
      unfolding addresses
      addresses-gives n = shaped-gives _ _ (cells-gives no_address 16 (suc n) 5 count-given (listed-gives no_address address_gives n))

      originator-gives : Gives originator
      unfolding originator
      originator-gives = shaped-gives _ _ (optional-gives no_address address_gives)

      recipients-gives : Gives recipients
      unfolding recipients
      recipients-gives = shaped-gives _ _ (optional-gives no_addresses (addresses-gives 15))

      information-gives : (n : ℕ) → Gives (information n)
      unfolding information
      information-gives n = shaped-gives _ _ (behind-gives (recurs-gives n) (present-gives no_addresses (addresses-gives (n - 1))))

      front-gives : Gives front
      unfolding front
      front-gives =
          shaped-gives _ _
          (and-gives (and-gives (number-gives 4 1 2 2 version-given) (and-gives (may 2 0 1) originator-gives))
          (behind-gives recipients-gives (λ g. information-gives (room_behind g))))

      identity-gives : Gives optional_identity
      unfolding optional_identity identity
      identity-gives = shaped-gives _ _ (optional-gives no_identity (shaped-gives _ _ (and-gives (num 4 0 15) (and-gives (num 7 0 127) (may 7 0 127)))))

      standard-version-gives : (version : ℕ) → Gives (standard_version version)
      unfolding standard_version
      standard-version-gives version = unless-gives _ _ _ 3 code-given (may 4 0 15)

      format-gives : (version : ℕ) → Gives (format version)
      unfolding format
      format-gives version = shaped-gives _ _ (and-gives (num 4 0 8) (and-gives (standard-version-gives version) (and-gives identity-gives (optional-text-gives 64))))

      codes-gives : Gives codes
      unfolding codes
      codes-gives = shaped-gives _ _ (and-gives (num 2 0 3) (and-gives (num 1 0 1) (and-gives (num 3 0 7) (num 2 0 3))))

      handling-gives : Gives handling
      unfolding handling
      handling-gives = shaped-gives _ _ (and-gives (may 20 0 1048575) (and-gives codes-gives (optional-text-gives 32)))

      times-gives : Gives times
      unfolding times optional_stamp optional_dtg optional_requests requests
      times-gives =
          shaped-gives _ _
          (and-gives (shaped-gives _ _ (optional-gives no_stamp stamp-gives))
          (and-gives (shaped-gives _ _ (optional-gives no_dtg dtg-gives))
          (shaped-gives _ _ (optional-gives no_requests (shaped-gives _ _ (and-gives flag-gives (and-gives flag-gives flag-gives)))))))

      compliance-gives : Gives compliance
      unfolding compliance
      compliance-gives = shaped-gives _ _ (and-gives (num 3 1 6) (and-gives (may 3 0 7) (may 6 0 63)))

      response-gives : Gives optional_response
      unfolding optional_response response
      response-gives = shaped-gives _ _ (optional-gives no_response (shaped-gives _ _ (and-gives stamp-gives (and-gives compliance-gives (optional-text-gives 50)))))

      reference-gives : Gives reference
      unfolding reference
      reference-gives = shaped-gives _ _ (and-gives address_gives stamp-gives)

      references-gives : Gives optional_references
      unfolding optional_references references
      references-gives = shaped-gives _ _ (optional-gives no_references (shaped-gives _ _ (cells-gives no_reference 4 4 5 count-given (listed-gives no_reference reference-gives 3))))

      block-gives : (version : ℕ) → Gives (block version)
      unfolding block
      block-gives version =
          shaped-gives _ _
          (and-gives (and-gives (format-gives version) (and-gives handling-gives times-gives)) (and-gives response-gives (closed_by-gives 7 security-given references-gives)))

      blocks-gives : (version : ℕ) → Gives (blocks version)
      unfolding blocks
      blocks-gives version = shaped-gives _ _ (cells-gives no_block 16 16 5 count-given (listed-gives no_block (block-gives version) 15))

      -- a rule's number, or a size's
      given : (n : ℕ) → T (leb 41 n) → T (leb n 54) → P n
      given n l m = rule-given n (lit≤ l) (lit≤ m)

      judgement-gives : (x : Setting) (holds : Bool) (octets : ℕ) (g : Blocks) → P (judgement x holds octets g).number
      unfolding judgement wrong_size
      judgement-gives x holds octets g =
          first-of-gives (in_order (rules x) (used_blocks g)) _
          (order-gives (rules x) (given 41 tt tt, (given 42 tt tt, (given 43 tt tt, (given 44 tt tt, (given 45 tt tt, (given 46 tt tt, (given 47 tt tt, (given 48 tt tt, (given 49 tt tt, tt))))))))) (used_blocks g))
          (order-gives (size_rules holds _) (given 51 tt tt, (given 52 tt tt, (given 53 tt tt, (given 54 tt tt, tt)))) (shares octets (used_blocks g)))

      pub fault-gives : (h : Header) (count : ℕ) → P (fault_of h count).number
      unfolding fault_of
      fault-gives h count =
          first-of-gives (plain (fields_fault h)) _ (first_gives (front-gives.gives h.front) ((blocks-gives h.front.version).gives h.blocks))
          (first-of-gives (record_verdict h count) _ (judgement-gives (setting_of h) true count h.blocks) (test-gives (leb (header_size h + count) datagram_limit) 12 long-given))
