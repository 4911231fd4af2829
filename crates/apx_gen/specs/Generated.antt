-- The example that a number and a size make.
use Rattle.std.specs.Prelude.{ℕ, zero, suc, ◌+◌, ◌/◌, ◌%◌, ◌++◌, List, [], ◌∷◌, codes, decimal, cond, nat_lt}
use Rattle.rand_pcg.specs.Lcg.{Lcg, started, increment_of}
use Rattle.rand_pcg.specs.Pcg.{pcg32, multiplier_64}

-- the generator of an example
abbrev pub generator_of : ℕ → Lcg
generator_of number = started 64 multiplier_64 number (increment_of 64 1)

-- what a generator gives next
unfoldable pub drawn : Lcg → ℕ
drawn generator = (pcg32 generator).0

-- the generator after that
unfoldable pub after_one : Lcg → Lcg
after_one generator = (pcg32 generator).1

-- the generator after a line
unfoldable pub after_line : Lcg → Lcg
after_line generator = after_one (after_one (after_one (after_one generator)))

-- a word of a line, from what was drawn for it, with the byte behind it
unfoldable pub word_text : ℕ → ℕ → List ℕ
word_text number ending = codes "w" ++ (decimal (number % 1000) ++ ending ∷ [])

-- a line of four words, from what the generator gives next
unfoldable pub line_text : Lcg → List ℕ
line_text generator =
    word_text (drawn generator) 32
    ++ (word_text (drawn (after_one generator)) 32
    ++ (word_text (drawn (after_one (after_one generator))) 32
    ++ word_text (drawn (after_one (after_one (after_one generator)))) 10))

-- so many lines of an example
abbrev pub lines_text : ℕ → Lcg → List ℕ
lines_text zero generator = []
lines_text (suc size) generator = line_text generator ++ lines_text size (after_line generator)

-- the application of all examples, which counts words
abbrev pub application_text : List ℕ
application_text =
    codes "{\"operators\": [\n"
    ++ (codes "  {\"name\": \"read\", \"class\": \"lines\", \"properties\": {\"file\": \"gen.txt\", \"perWindow\": 10}},\n"
    ++ (codes "  {\"name\": \"split\", \"class\": \"words\"},\n"
    ++ (codes "  {\"name\": \"tally\", \"class\": \"count\", \"attributes\": {\"PARTITIONS\": 4}},\n"
    ++ (codes "  {\"name\": \"out\", \"class\": \"store\"}],\n"
    ++ (codes " \"streams\": [\n"
    ++ (codes "  {\"name\": \"s1\", \"source\": {\"operatorName\": \"read\", \"portName\": \"output\"},\n"
    ++ (codes "   \"sinks\": [{\"operatorName\": \"split\", \"portName\": \"input\"}]},\n"
    ++ (codes "  {\"name\": \"s2\", \"source\": {\"operatorName\": \"split\", \"portName\": \"output\"},\n"
    ++ (codes "   \"sinks\": [{\"operatorName\": \"tally\", \"portName\": \"input\"}]},\n"
    ++ (codes "  {\"name\": \"s3\", \"source\": {\"operatorName\": \"tally\", \"portName\": \"output\"},\n"
    ++ codes "   \"sinks\": [{\"operatorName\": \"out\", \"portName\": \"input\"}]}]}"))))))))))

-- the script: none for fewer than eight windows, and else two kills and a repartition
abbrev pub script_text : ℕ → List ℕ
script_text size = cond (nat_lt ((size + 9) / 10) 8) [] (codes "kill done 3 0 split\nrepartition 4 3 tally\nkill staged 6 2 tally\n")
