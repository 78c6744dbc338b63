-- The words by which scripts name the controls of the sample device (of this project), over their bytes.
use Rattle.std.specs.Prelude.{List, [], ◌∷◌, codes}
use Rattle.script_lines.specs.ControlWords.{ControlWord}

-- the word, the id and the number of each control
abbrev pub sample_words : List ControlWord
sample_words =
    record { word = codes "autogain"; id = record { 0 = 0x00980912 }; number = 0 }
    ∷ record { word = codes "gain"; id = record { 0 = 0x00980913 }; number = 1 }
    ∷ record { word = codes "hflip"; id = record { 0 = 0x00980914 }; number = 2 }
    ∷ record { word = codes "vflip"; id = record { 0 = 0x00980915 }; number = 3 }
    ∷ record { word = codes "hue"; id = record { 0 = 0x00980903 }; number = 4 }
    ∷ record { word = codes "brightness"; id = record { 0 = 0x00980900 }; number = 5 }
    ∷ record { word = codes "power"; id = record { 0 = 0x00980918 }; number = 6 }
    ∷ record { word = codes "button"; id = record { 0 = 0x0098090d }; number = 7 }
    ∷ record { word = codes "red"; id = record { 0 = 0x0098090e }; number = 8 }
    ∷ record { word = codes "blue"; id = record { 0 = 0x0098090f }; number = 9 }
    ∷ []
