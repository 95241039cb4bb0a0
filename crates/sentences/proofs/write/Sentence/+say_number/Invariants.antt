use Rattle.sentences.proofs.write.Sentence.+say_number.Given as goal

-- the number falls with each call
abbrev pub decreases-say_number : goal.decreases-say_number
decreases-say_number l = l.n
