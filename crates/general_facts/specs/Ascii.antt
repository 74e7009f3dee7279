-- Names of bytes (ASCII, RFC 20).
use Rattle.std.specs.Prelude.{ℕ}

-- a tab
abbrev pub tab : ℕ
tab = 9

-- a line feed
abbrev pub line_feed : ℕ
line_feed = 10

-- a carriage return
abbrev pub carriage_return : ℕ
carriage_return = 13

-- a space
abbrev pub space : ℕ
space = 32

-- !
abbrev pub bang : ℕ
bang = 33

-- "
abbrev pub double_quote : ℕ
double_quote = 34

-- #
abbrev pub hash_sign : ℕ
hash_sign = 35

-- $
abbrev pub dollar : ℕ
dollar = 36

-- &
abbrev pub ampersand : ℕ
ampersand = 38

-- (
abbrev pub left_paren : ℕ
left_paren = 40

-- )
abbrev pub right_paren : ℕ
right_paren = 41

-- *
abbrev pub star : ℕ
star = 42

-- +
abbrev pub plus_sign : ℕ
plus_sign = 43

-- ,
abbrev pub comma : ℕ
comma = 44

-- -
abbrev pub dash : ℕ
dash = 45

-- .
abbrev pub dot : ℕ
dot = 46

-- /
abbrev pub slash : ℕ
slash = 47

-- 0
abbrev pub digit_zero : ℕ
digit_zero = 48

-- 1
abbrev pub digit_one : ℕ
digit_one = 49

-- 9
abbrev pub digit_nine : ℕ
digit_nine = 57

-- :
abbrev pub colon : ℕ
colon = 58

-- ;
abbrev pub semicolon : ℕ
semicolon = 59

-- <
abbrev pub less_sign : ℕ
less_sign = 60

-- =
abbrev pub equals_sign : ℕ
equals_sign = 61

-- >
abbrev pub greater_sign : ℕ
greater_sign = 62

-- The question mark
abbrev pub question_mark : ℕ
question_mark = 63

-- A
abbrev pub capital_a : ℕ
capital_a = 65

-- E
abbrev pub capital_e : ℕ
capital_e = 69

-- F
abbrev pub capital_f : ℕ
capital_f = 70

-- H
abbrev pub capital_h : ℕ
capital_h = 72

-- L
abbrev pub capital_l : ℕ
capital_l = 76

-- M
abbrev pub capital_m : ℕ
capital_m = 77

-- N
abbrev pub capital_n : ℕ
capital_n = 78

-- R
abbrev pub capital_r : ℕ
capital_r = 82

-- S
abbrev pub capital_s : ℕ
capital_s = 83

-- T
abbrev pub capital_t : ℕ
capital_t = 84

-- U
abbrev pub capital_u : ℕ
capital_u = 85

-- [
abbrev pub left_bracket : ℕ
left_bracket = 91

-- \
abbrev pub backslash : ℕ
backslash = 92

-- ]
abbrev pub right_bracket : ℕ
right_bracket = 93

-- ^
abbrev pub caret : ℕ
caret = 94

-- _
abbrev pub underscore : ℕ
underscore = 95

-- a
abbrev pub small_a : ℕ
small_a = 97

-- f
abbrev pub small_f : ℕ
small_f = 102

-- g
abbrev pub small_g : ℕ
small_g = 103

-- n
abbrev pub small_n : ℕ
small_n = 110

-- p
abbrev pub small_p : ℕ
small_p = 112

-- r
abbrev pub small_r : ℕ
small_r = 114

-- t
abbrev pub small_t : ℕ
small_t = 116

-- v
abbrev pub small_v : ℕ
small_v = 118

-- x
abbrev pub small_x : ℕ
small_x = 120

-- {
abbrev pub left_brace : ℕ
left_brace = 123

-- |
abbrev pub bar : ℕ
bar = 124

-- }
abbrev pub right_brace : ℕ
right_brace = 125

-- ~
abbrev pub tilde : ℕ
tilde = 126
