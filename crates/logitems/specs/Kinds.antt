-- Document 01, "The log program", and document 02, requests 1 and 9: one byte of kind, then a body whose length the kind fixes. Assumes nothing.
use Rattle.std.specs.Prelude.{◌≡◌, ◌⊎◌, [], ◌∷◌, ℕ, ◌<◌, get_or, Result, MatchResult}
use Rattle.logitems.specs.declared.kinds.Kind.{Kind}
use Rattle.logitems.specs.declared.kinds.Kind.TheVariants as kind
use Rattle.logitems.specs.declared.kinds.UnknownKind.{UnknownKind}

-- 1 start; 2 open a day; 3 one sample; 4 enter; 5 withdraw a day; 6 ask; 7 open a day of several periods; 8 an edition
abbrev pub kind_start : ℕ
kind_start = 1

abbrev pub kind_open : ℕ
kind_open = 2

abbrev pub kind_sample : ℕ
kind_sample = 3

abbrev pub kind_enter : ℕ
kind_enter = 4

abbrev pub kind_withdraw : ℕ
kind_withdraw = 5

abbrev pub kind_ask : ℕ
kind_ask = 6

abbrev pub kind_capture : ℕ
kind_capture = 7

abbrev pub kind_edition : ℕ
kind_edition = 8

-- order 1 byte, taps 2, slots 1; a day 2; a sample 3; a day 2 and its periods 1; an edition 1; enter and ask have no body
abbrev pub start_body : ℕ
start_body = 4

abbrev pub day_body : ℕ
day_body = 2

abbrev pub sample_body : ℕ
sample_body = 3

abbrev pub capture_body : ℕ
capture_body = 3

abbrev pub edition_body : ℕ
edition_body = 1

abbrev pub no_body : ℕ
no_body = 0

-- the kinds in their order, behind 0, which is none
abbrev pub body_length : ℕ → ℕ
body_length kind = get_or (no_body ∷ start_body ∷ day_body ∷ sample_body ∷ no_body ∷ day_body ∷ no_body ∷ capture_body ∷ edition_body ∷ []) kind no_body

-- the byte of a kind
abbrev pub byte_of : Kind → ℕ
byte_of kind.Start = kind_start
byte_of kind.Open = kind_open
byte_of kind.Sample = kind_sample
byte_of kind.Enter = kind_enter
byte_of kind.Withdraw = kind_withdraw
byte_of kind.Ask = kind_ask
byte_of kind.Capture = kind_capture
byte_of kind.Edition = kind_edition

-- the kind of a byte, or an error with a byte that is 0 or above the last kind, and so none of them
abbrev pub Decodes : ℕ → Result Kind UnknownKind → Type 0
Decodes byte r = MatchResult r (λ k. byte_of k ≡ byte) (λ e. (e.0 ≡ byte) × ((byte ≡ 0) ⊎ (kind_edition < byte)))
