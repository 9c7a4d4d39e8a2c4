mod HyphensEnd
mod OtherNames
mod ParsedNumbers
mod ParsedWords
mod PlainValues
mod PlainWords
mod SimpleForms
mod WorkedWords
